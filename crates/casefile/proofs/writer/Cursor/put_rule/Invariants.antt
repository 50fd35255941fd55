use Rattle.std.proofs.Common.{[], get_or, take}
use Rattle.cases.specs.Meanings.{rules_of}
use Rattle.casefile.specs.Inner.Writing.{Wrote}
use Rattle.casefile.proofs.writer.Cursor.put_rule.Given as goal

-- the literals before j are written
abbrev pub invariant-loop-j : goal.invariant-loop-j
invariant-loop-j g l = Wrote l.initial.self (take l.j (get_or (rules_of (g.C.Case.meaning l.case)) l.r [])) l.self
