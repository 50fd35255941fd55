-- Backtrack finds its places: the row that leaves, room for the row that is learned, and room on the trail for its literal.
use Rattle.std.proofs.Common.{◌≡◌, ℕ, zero, suc, ◌+◌, ◌*◌, ◌<◌, ◌≤◌, Bool, true, false, cond, not, eqb, ltb, leb, List, [], ◌∷◌, length, get_or, refl, ap, subst, ⊎_elim, arith}
use Rattle.std.proofs.lemmas.Bool.{both_ways, cases_Bool, or_parts, not-true, lt-leb, lt-ltb, le-ltb, leb-true, leb-false, cond_both}
use Rattle.cases.specs.Literals.{Literals, complement}
use Rattle.calculus.specs.Scans.{first, remove, greatest}
use Rattle.calculus.specs.Trails.{Trail, on, level, level_of, cut, Levelled}
use Rattle.calculus.specs.Learned.{is_reason, leaving, renamed}
use Rattle.calculus.specs.Calculus.{Asserts, Free}
use Rattle.calculus.specs.Steps.{at_level, can_backtrack, others}
use Rattle.calculus.proofs.Scans.{length-remove, remove_past, first_yes, some_fails}
use Rattle.calculus.proofs.Literals.{complement_twice}
use Rattle.calculus.proofs.Trails.{Distinct, cut_on, cut_below, on_one, asserts_lower}
use Rattle.calculus.proofs.Tests.{asserts}
use Rattle.calculus.proofs.Reasons.{reasons_few, on_renamed, length-renamed}
use Rattle.tables.specs.Rows.{Noted, nothing_noted}
use Rattle.tables.specs.Learned.{rules_learned}
use Rattle.tables.proofs.Facts.{length-learned}
use Rattle.trails.specs.Trails.{has_place}
use Rattle.steps.proofs.Marking.{Notes}

-- a literal that is not on the trail has no level
pub level_of_unset : (t : Trail) (x : ℕ) → on t x ≡ false → level_of t x ≡ 0
unfolding on level_of
level_of_unset [] x h = refl
level_of_unset (e ∷ t) x h = let w = or_parts (eqb e.literal x) (on t x) h in rw w.0 (level_of_unset t x w.1)

-- the row that leaves, by the notes of the rows
first_same : (k : ℕ) (p q : ℕ → Bool) → ((j : ℕ) → j < k → p j ≡ q j) → first k p ≡ first k q
unfolding first
first_same zero p q h = refl
first_same (suc k) p q h = rw (h 0 (omega arith), first_same k (λ x. p (suc x)) (λ x. q (suc x)) (λ j l. h (suc j) (omega arith)))

first_le : (k : ℕ) (f : ℕ → Bool) → first k f ≤ k
unfolding first
first_le zero f = omega arith
first_le (suc k) f = cond_both (f 0) 0 (suc (first k (λ x. f (suc x)))) (λ (z : ℕ). z ≤ suc k) (λ _. omega arith) (λ _. omega (arith, first_le k (λ x. f (suc x))))

pub leaving_le : (k : ℕ) (f : ℕ → Bool) → cond (leb 64 k) (first k f) k ≤ k
leaving_le k f = cond_both (leb 64 k) (first k f) k (λ (z : ℕ). z ≤ k) (λ _. first_le k f) (λ _. omega arith)

module _ (base : ℕ) (t : Trail) (rs : List Noted) where
  pub leaving_noted : Notes base t rs
      → cond (leb 64 (length rs)) (first (length rs) (λ j. not (get_or rs j nothing_noted).reason)) (length rs) ≡ leaving base t (rules_learned rs)
  unfolding leaving
  leaving_noted notes =
      rw (length-learned rs)
      (ap (λ (x : ℕ). cond (leb 64 (length rs)) x (length rs)) (first_same (length rs) (λ j. not (get_or rs j nothing_noted).reason) (λ j. not (is_reason t (base + j))) (λ j h. ap not (notes j h))))

  -- a full table drops a row that is no reason; another drops none
  pub record Dropped (p : ℕ) : Type 0 where
    pub free : p < length rs → is_reason t (base + p) ≡ false
    pub within : p ≤ length rs
    pub room : length (remove p rs) < 64

  pub dropped : length rs ≤ 64 → length t < 64 → Dropped (leaving base t (rules_learned rs))
  unfolding leaving
  dropped few short =
      rw (length-learned rs)
      (⊎_elim
      (λ (k : leb 64 (length rs) ≡ true).
      let full = leb-true 64 (length rs) k in
      let f = first_yes (length rs) (λ j. not (is_reason t (base + j))) (some_fails (length rs) (λ j. is_reason t (base + j)) (omega (arith, reasons_few base t (length rs)))) in
      rw k
      (record {
        free = λ _. not-true (is_reason t (base + first (length rs) (λ j. not (is_reason t (base + j))))) f.1;
        within = omega (arith, f.0);
        room = omega (arith, length-remove (first (length rs) (λ j. not (is_reason t (base + j)))) rs f.0);
      }))
      (λ (k : leb 64 (length rs) ≡ false).
      let part = leb-false 64 (length rs) k in
      rw k (record { free = λ h. absurd (omega arith); within = omega arith; room = rw (remove_past (length rs) rs (omega arith)) part }))
      (cases_Bool (leb 64 (length rs))))

-- a cut below the trail's level takes something off
cut_short : (i : ℕ) (t : Trail) → length (cut i t) ≤ length t
unfolding cut
cut_short i [] = omega arith
cut_short i (e ∷ t) = cond_both (leb e.level i) (e ∷ t) (cut i t) (λ (z : Trail). length z ≤ suc (length t)) (λ _. omega arith) (λ _. omega (arith, cut_short i t))

pub cut_shorter : (i : ℕ) (t : Trail) → Levelled t → i < level t → length (cut i t) < length t
unfolding cut level
cut_shorter i [] w h = absurd (omega arith)
cut_shorter i (e ∷ t) w h = rw (lt-leb e.level i (omega (arith, w.0))) (omega (arith, cut_short i t))

-- the asserted literal has a place on the trail that is left
module _ (n : ℕ) (t : Trail) (D : Literals) (few : 2 * n ≤ 128) (short : length t ≤ 56) (apart : Distinct 64 t) (levelled : Levelled t) (can : can_backtrack n t D ≡ true) where
  abbrev L : ℕ
  L = first (2 * n) (at_level t D (level t))

  abbrev i : ℕ
  i = greatest (2 * n) (others D L) (λ x. level_of t (complement x))

  a : Asserts n t D L i
  a = asserts n t D can

  pub asserted_below : L < 2 * n
  asserted_below = a.in_range

  pub lower : i < level t
  lower = asserts_lower n t D L i levelled a

  against : on t (complement L) ≡ true
  against =
      ⊎_elim (λ h. h) (λ (h : on t (complement L) ≡ false). absurd (omega (arith, level_of_unset t (complement L) h, a.at_top, a.not_ground))) (cases_Bool (on t (complement L)))

  unset_there : on (cut i t) L ≡ false
  unset_there =
      ⊎_elim
      (λ (h : on (cut i t) L ≡ true).
      absurd (both_ways (on t L) (subst (λ (z : ℕ). on t z ≡ false) (complement_twice L) (on_one 64 t (complement L) apart against)) (cut_on i t L h)))
      (λ h. h)
      (cases_Bool (on (cut i t) L))

  unopposed_there : on (cut i t) (complement L) ≡ false
  unopposed_there =
      ⊎_elim
      (λ (h : on (cut i t) (complement L) ≡ true). absurd (omega (arith, cut_below 64 i t (complement L) apart levelled h, a.at_top, lower)))
      (λ h. h)
      (cases_Bool (on (cut i t) (complement L)))

  pub has_room : has_place (cut i t) L ≡ true
  has_room =
      let l : ltb (length (cut i t)) 56 ≡ true = lt-ltb (length (cut i t)) 56 (omega (arith, cut_shorter i t levelled lower)) in
      let s : ltb L 128 ≡ true = lt-ltb L 128 (omega (arith, a.in_range)) in
      rw (l, s, unset_there, unopposed_there)

-- a place stays one when reasons are renamed
pub place_renamed : (p : ℕ) (t : Trail) (l : ℕ) → has_place (renamed p t) l ≡ has_place t l
place_renamed p t l = rw (length-renamed p t, on_renamed p t l, on_renamed p t (complement l))

-- a free literal has a place on a trail that is not full
pub free_place : (n : ℕ) (t : Trail) (l : ℕ) → Free n t l → 2 * n ≤ 128 → length t < 56 → has_place t l ≡ true
free_place n t l f few short = rw (lt-ltb (length t) 56 short, lt-ltb l 128 (omega (arith, f.in_range)), f.not_set, f.not_false)

pub full_place : (t : Trail) (l : ℕ) → 56 ≤ length t → has_place t l ≡ false
full_place t l h = rw (le-ltb (length t) 56 h)
