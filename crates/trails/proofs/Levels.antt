-- Levels on a trail whose levels are right: the newest literals are those of its own level, and of some literals the
-- newest has the greatest.
use Rattle.std.proofs.Common.{◌≡◌, ℕ, ◌<◌, ◌≤◌, Bool, true, false, cond, ◌&&◌, ◌||◌, eqb, ◌⊎◌, [], ◌∷◌, length, sym, refl, ap, ◌∙◌, subst, inl, inr, ⊎_elim, arith}
use Rattle.std.proofs.lemmas.Bool.{cases_Bool, cases_eq, both_ways, eq-eqb, ne_eqb, and_right}
use Rattle.cases.specs.Literals.{Literals, complement}
use Rattle.calculus.specs.Scans.{greatest}
use Rattle.calculus.specs.Trails.{Trail, Entry, on, level, level_of, Levelled}
use Rattle.calculus.proofs.Literals.{complement_twice, complement_range}
use Rattle.calculus.proofs.Scans.{greatest_above, greatest_reached}
use Rattle.calculus.proofs.Tests.{level_of_own, level_of_other}
use Rattle.calculus.proofs.Trails.{level_of_le, opened_up, opened_by, Distinct}

pub level_length : (t : Trail) → level t ≤ length t
unfolding level
level_length [] = omega arith
level_length (e ∷ t) = omega (arith, level_length t, opened_by e.reason (level t))

pub level_none : level [] ≡ 0
unfolding level
level_none = refl

pub level_up : (e : Entry) (t : Trail) → level t ≤ level (e ∷ t)
unfolding level
level_up e t = opened_up e.reason (level t)

-- the complement of x is among the newest entries that have the level k
abbrev pub block : ℕ → Trail → ℕ → Bool
block k [] x = false
block k (e ∷ t) x = eqb e.level k && (eqb e.literal (complement x) || block k t x)

pub block_is : (k : ℕ) (t : Trail) (x : ℕ) → Levelled t → level t ≤ k → block k t x ≡ (on t (complement x) && eqb (level_of t (complement x)) k)
unfolding on level_of
block_is k [] x w h = refl
block_is k (e ∷ t) x w h =
    ⊎_elim
    (λ (a : e.level ≡ k).
    rw (eq-eqb e.level k a)
    (⊎_elim (λ (q : eqb e.literal (complement x) ≡ true). rw q (sym (eq-eqb e.level k a)))
    (λ (q : eqb e.literal (complement x) ≡ false). rw q (block_is k t x w.1 (omega (arith, level_up e t))))
    (cases_Bool (eqb e.literal (complement x)))))
    (λ (a : e.level ≡ k → ⊥).
    rw (ne_eqb e.level k a)
    (sym (and_right (on (e ∷ t) (complement x)) (eqb (level_of (e ∷ t) (complement x)) k)
    (ne_eqb (level_of (e ∷ t) (complement x)) k (λ z. a (omega (arith, level_of_le (e ∷ t) (complement x) w, w.0)))))))
    (cases_eq e.level k)

-- the level of the newest literal whose complement is in the set
abbrev pub newest : Literals → Trail → ℕ
newest S [] = 0
newest S (e ∷ t) = cond (S (complement e.literal)) e.level (newest S t)

-- a literal of the set is not the complement of an entry whose complement is not in it
passed : (S : Literals) (e : Entry) (t : Trail) (x : ℕ) → S (complement e.literal) ≡ false → S x ≡ true → level_of (e ∷ t) (complement x) ≡ level_of t (complement x)
passed S e t x out h =
    level_of_other e t (complement x)
    (ne_eqb e.literal (complement x) (λ z. both_ways (S x) (subst (λ (y : ℕ). S y ≡ false) (ap complement z ∙ complement_twice x) out) h))

newest_above : (S : Literals) (t : Trail) (x : ℕ) → Levelled t → S x ≡ true → level_of t (complement x) ≤ newest S t
unfolding level_of
newest_above S [] x w h = omega arith
newest_above S (e ∷ t) x w h =
    ⊎_elim (λ (q : S (complement e.literal) ≡ true). rw q (omega (arith, level_of_le (e ∷ t) (complement x) w, w.0)))
    (λ (q : S (complement e.literal) ≡ false). rw q (omega (arith, passed S e t x q h, newest_above S t x w.1 h)))
    (cases_Bool (S (complement e.literal)))

abbrev Reached : Literals → Trail → ℕ → Type 0
Reached S t k = (k ≡ 0) ⊎ ((x : ℕ) × (x < 128) × (S x ≡ true) × (level_of t (complement x) ≡ k))

newest_reached : (S : Literals) (t : Trail) → Distinct 64 t → Reached S t (newest S t)
newest_reached S [] d = inl refl
newest_reached S (e ∷ t) d =
    ⊎_elim
    (λ (q : S (complement e.literal) ≡ true).
    rw q
    (inr (
      complement e.literal,
      complement_range 64 e.literal d.0.in_range,
      q,
      ap (level_of (e ∷ t)) (complement_twice e.literal) ∙ level_of_own e t,
    )))
    (λ (q : S (complement e.literal) ≡ false).
    rw q
    (⊎_elim (λ z. inl z) (λ z. inr (z.0, z.1, z.2, passed S e t z.0 q z.2 ∙ z.3)) (newest_reached S t d.1)))
    (cases_Bool (S (complement e.literal)))

pub newest_is : (S : Literals) (t : Trail) → Levelled t → Distinct 64 t → newest S t ≡ greatest 128 S (λ x. level_of t (complement x))
newest_is S t w d =
    let f : ℕ → ℕ = λ x. level_of t (complement x) in
    let up : newest S t ≤ greatest 128 S f =
    ⊎_elim (λ z. omega arith) (λ z. omega (arith, greatest_above 128 S f z.0 z.1 z.2, z.3)) (newest_reached S t d)
    in
    let down : greatest 128 S f ≤ newest S t =
    ⊎_elim (λ z. omega arith) (λ z. omega (arith, newest_above S t z.0 w z.2, z.3)) (greatest_reached 128 S f)
    in
    omega arith
