use Rattle.std.proofs.Common.{take}
use Rattle.cases.specs.Meanings.{amounts_of}
use Rattle.casefile.specs.Inner.Writing.{Wrote}
use Rattle.casefile.specs.Bytes.{amount_fields}
use Rattle.casefile.proofs.writer.Cursor.put_amounts.Given as goal

-- the amounts before l are written
abbrev pub invariant-loop-l : goal.invariant-loop-l
invariant-loop-l g l = Wrote l.initial.self (amount_fields 0 (take l.l (amounts_of (g.C.Case.meaning l.case)))) l.self
