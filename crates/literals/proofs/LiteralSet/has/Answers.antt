use Rattle.std.proofs.Common.{ℕ, eqb, sym, ap, ◌∙◌, arith}
use Rattle.std.proofs.lemmas.Bool.{le-ltb}
use Rattle.std.proofs.lemmas.Nat.Bits.{shr_and_one}
use Rattle.literals.specs.Members.{member}
use Rattle.literals.proofs.Digits.{none_past}
use Rattle.literals.proofs.LiteralSet.has.Goals as goal

pub returns-then-l-lt-SPAN : goal.returns-then-l-lt-SPAN
unfolding member
returns-then-l-lt-SPAN c = ap (λ (x : ℕ). eqb x 1) (shr_and_one c.args.self.now.bits c.args.l)

pub returns-else-l-lt-SPAN : goal.returns-else-l-lt-SPAN
unfolding member
returns-else-l-lt-SPAN c = le-ltb c.args.l 128 c.if-l-lt-SPAN.false ∙ sym (none_past c.args.self.now.bits c.args.l (omega arith) c.if-l-lt-SPAN.false)
