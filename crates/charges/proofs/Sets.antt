-- The charge of a set of literals: one literal more, and more literals, from the laws.
use Rattle.std.proofs.Common.{◌≡◌, ℕ, zero, suc, ◌*◌, ◌<◌, true, false, ◌||◌, eqb, sym, refl, ap, ◌∙◌, ⊎_elim, arith}
use Rattle.std.proofs.lemmas.Bool.{cases_Bool, cases_eq, eq-eqb, ne_eqb, or_left}
use Rattle.cases.specs.Meanings.{Sound}
use Rattle.cases.specs.Literals.{Literals}
use Rattle.charges.specs.Kinds.{Kind, Laws}
use Rattle.charges.specs.Charges.{price_of, charge_below, charge}
use Rattle.charges.proofs.Sums.{not_above_sum}

-- sets that agree below k have one charge below k
pub charge_same_below : (K : Kind) (s : Sound) (k : ℕ) (S R : Literals) → ((x : ℕ) → x < k → S x ≡ R x) → charge_below K s k S ≡ charge_below K s k R
unfolding charge_below
charge_same_below K s zero S R h = refl
charge_same_below K s (suc k) S R h =
    let e = h k (omega arith) in
    let ih = charge_same_below K s k S R (λ x l. h x (omega arith)) in
    rw (e, ih)

pub charge_same : (K : Kind) (s : Sound) (S R : Literals) → ((x : ℕ) → x < 2 * s.options → S x ≡ R x) → charge K s S ≡ charge K s R
unfolding charge
charge_same K s S R h = charge_same_below K s (2 * s.options) S R h

charge_none_below : (K : Kind) (s : Sound) (k : ℕ) → charge_below K s k (λ _. false) ≡ K.zero
unfolding charge_below
charge_none_below K s zero = refl
charge_none_below K s (suc k) = charge_none_below K s k

pub charge_none : (K : Kind) (s : Sound) → charge K s (λ _. false) ≡ K.zero
unfolding charge
charge_none K s = charge_none_below K s (2 * s.options)

module _ (K : Kind) (laws : Laws K) (s : Sound) where
  -- R is S with the literal l, which S has not
  module _ (l : ℕ) (S R : Literals) (new : S l ≡ false) (more : (x : ℕ) → R x ≡ (eqb l x || S x)) where
    elsewhere : (x : ℕ) → (l ≡ x → ⊥) → R x ≡ S x
    elsewhere x ne = more x ∙ ap (λ b. b || S x) (ne_eqb l x ne)

    here : R l ≡ true
    here = more l ∙ or_left (eqb l l) (S l) (eq-eqb l l refl)

    charge_insert_below : (k : ℕ) → l < k → charge_below K s k R ≡ K.sum (price_of K s l) (charge_below K s k S)
    unfolding charge_below
    charge_insert_below zero h = absurd (omega arith)
    charge_insert_below (suc k) h =
        ⊎_elim
        (λ (e : l ≡ k).
        let rk = ap R (sym e) ∙ here in
        let sk = ap S (sym e) ∙ new in
        let below = charge_same_below K s k R S (λ x lt. elsewhere x (λ q. omega arith)) in
        rw (rk, sk, below, e) (laws.commutative _ _))
        (λ (ne : l ≡ k → ⊥).
        let rk = elsewhere k ne in
        let ih = charge_insert_below k (omega arith) in
        ⊎_elim (λ (q : S k ≡ true). rw (rk, q, ih) (laws.associative _ _ _)) (λ (q : S k ≡ false). rw (rk, q) ih) (cases_Bool (S k)))
        (cases_eq l k)

    pub charge_insert : l < 2 * s.options → charge K s R ≡ K.sum (price_of K s l) (charge K s S)
    unfolding charge
    charge_insert h = charge_insert_below (2 * s.options) h

  charge_part_below : (k : ℕ) (S R : Literals) → ((x : ℕ) → x < k → S x ≡ true → R x ≡ true) → K.not_above (charge_below K s k S) (charge_below K s k R) ≡ true
  unfolding charge_below
  charge_part_below zero S R h = laws.least K.zero
  charge_part_below (suc k) S R h =
      let ih = charge_part_below k S R (λ x l. h x (omega arith)) in
      ⊎_elim
      (λ (e : S k ≡ true). let f = h k (omega arith) e in rw (e, f) (laws.monotone _ _ (price_of K s k) ih))
      (λ (e : S k ≡ false).
      ⊎_elim (λ (f : R k ≡ true). rw (e, f) (laws.transitive _ _ _ ih (not_above_sum K laws _ (price_of K s k)))) (λ (f : R k ≡ false). rw (e, f) ih) (cases_Bool (R k)))
      (cases_Bool (S k))

  -- the charge of a part is not above that of the whole
  pub charge_part : (S R : Literals) → ((x : ℕ) → x < 2 * s.options → S x ≡ true → R x ≡ true) → K.not_above (charge K s S) (charge K s R) ≡ true
  unfolding charge
  charge_part S R h = charge_part_below (2 * s.options) S R h
