use Rattle.std.proofs.Common.{ℕ, sym, ap, ◌∙◌, arith}
use Rattle.std.proofs.lemmas.Bool.{eq-eqb, eqb-true}
use Rattle.literals.specs.Members.{bit_of, member}
use Rattle.literals.proofs.Digits.{same_members, zero_none}
use Rattle.literals.proofs.LiteralSet.is_empty.Goals as goal

pub returns : goal.returns
unfolding member
returns c =
    let b = c.args.self.now.bits in
    record {
      yes = λ e k. ap (λ (x : ℕ). bit_of x k) (eqb-true b 0 e) ∙ zero_none k;
      no = λ f. eq-eqb b 0 (same_members 128 b 0 (omega arith) (omega arith) (λ k h. f k h ∙ sym (zero_none k)));
    }
