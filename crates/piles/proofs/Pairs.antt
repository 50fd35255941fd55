-- The charge of a set, option by option, where setting an option off is free; from the laws.
use Rattle.std.proofs.Common.{◌≡◌, ℕ, suc, ◌+◌, ◌*◌, ◌/◌, ◌%◌, Bool, true, false, cond, List, get_or, subst, ⊎_elim, arith}
use Rattle.std.proofs.lemmas.Bool.{cases_Bool}
use Rattle.cases.specs.Literals.{Literals}
use Rattle.cases.specs.Choices.{sets}
use Rattle.cases.specs.Meanings.{Sound}
use Rattle.cases.proofs.Tests.{beq_true}
use Rattle.charges.specs.Kinds.{Kind, Laws}
use Rattle.charges.specs.Charges.{price_of, charge_below}

-- a choice sets the literal of an option's being on just if it is on
pub sets_on : (c : List Bool) (v : ℕ) → sets c (2 * v) ≡ get_or c v false
unfolding sets
sets_on c v =
    let h : 2 * v / 2 ≡ v = omega arith in
    let p : 2 * v % 2 ≡ 0 = omega arith in
    rw (h, p) (beq_true (get_or c v false))

module _ (K : Kind) (laws : Laws K) (s : Sound) where
  -- an option whose off-literal is free
  pub charge_pair : (v : ℕ) (S : Literals) → price_of K s (2 * v + 1) ≡ K.zero
      → charge_below K s (2 * (v + 1)) S ≡ cond (S (2 * v)) (K.sum (charge_below K s (2 * v) S) (price_of K s (2 * v))) (charge_below K s (2 * v) S)
  unfolding charge_below
  charge_pair v S free =
      let e : 2 * (v + 1) ≡ suc (suc (2 * v)) = omega arith in
      let o : 2 * v + 1 ≡ suc (2 * v) = omega arith in
      let q : price_of K s (suc (2 * v)) ≡ K.zero = subst (λ (x : ℕ). price_of K s x ≡ K.zero) o free in
      rw e (⊎_elim (λ (h : S (suc (2 * v)) ≡ true). rw (h, q) (laws.neutral _)) (λ (h : S (suc (2 * v)) ≡ false). rw h) (cases_Bool (S (suc (2 * v)))))
