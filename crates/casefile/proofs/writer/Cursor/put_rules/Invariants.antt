use Rattle.std.proofs.Common.{take}
use Rattle.cases.specs.Meanings.{rules_of}
use Rattle.casefile.specs.Inner.Writing.{Wrote}
use Rattle.casefile.specs.Bytes.{rule_fields}
use Rattle.casefile.proofs.writer.Cursor.put_rules.Given as goal

-- the rules before r are written
abbrev pub invariant-loop-r : goal.invariant-loop-r
invariant-loop-r g l = Wrote l.initial.self (rule_fields (take l.r (rules_of (g.C.Case.meaning l.case)))) l.self
