use Rattle.std.proofs.Common.{◌≡◌, ℕ, ◌^◌, ◌<◌, rules, false, not, eqb, Some, None, Option, MatchOption, is_some, sym, refl, ap, ◌∙◌, arith}
use borrow.Author.Tests.{tests}
use Rattle.std.specs.Int.{trailing_zeros, w128}
use Rattle.std.proofs.lemmas.Bool.{eqb-true, eqb-false, not-false, not-true}
use Rattle.std.proofs.lemmas.Option.{MatchOption-at_some}
use Rattle.std.proofs.lemmas.Nat.Bits.{bit_at-trailing_zeros}
use Rattle.literals.specs.declared.LiteralSet.{LiteralSet}
use Rattle.literals.specs.Members.{bit_of, member, Lowest}
use Rattle.literals.proofs.Digits.{zero_none}
use Rattle.literals.proofs.Options.{at_value}
use Rattle.literals.proofs.LiteralSet.first.Goals as goal

found : (s : LiteralSet) (o : Option ℕ) → s.bits < 2 ^ 128 → is_some o ≡ not (eqb s.bits 0) → ((l : ℕ) → o ≡ Some l → l ≡ trailing_zeros w128 s.bits)
    → MatchOption o ((k : ℕ) → member s k ≡ false) (λ l. Lowest s l)
unfolding member
found s None h e f = λ k. ap (λ (x : ℕ). bit_of x k) (eqb-true s.bits 0 (not-false (eqb s.bits 0) (sym e))) ∙ zero_none k
found s (Some l) h e f =
    let some : s.bits ≡ 0 → ⊥ = eqb-false s.bits 0 (not-true (eqb s.bits 0) (sym e)) in
    let z = bit_at-trailing_zeros w128 s.bits (omega arith) h in
    let is : l ≡ trailing_zeros w128 s.bits = f l refl in
    record {
      is_in = ap (bit_of s.bits) is ∙ ap (λ (x : ℕ). eqb x 1) z.1;
      none_below = λ k i. ap (λ (x : ℕ). eqb x 1) (z.2 k (omega arith));
    }

pub returns : goal.returns
returns c = found c.args.self.now c.then.result (omega arith) c.then.ensures.variant (λ l e. MatchOption-at_some _ _ l e (at_value _ (λ x. x ≡ trailing_zeros w128 c.args.self.now.bits) c.then.result (λ x k. search (rules, tests)) c.then.ensures.some))
