-- What every trail keeps, from its entries.
use Rattle.std.proofs.Common.{◌≡◌, ℕ, ◌<◌, Bool, false, not, ◌&&◌, ◌||◌, eqb, ltb, List, [], ◌∷◌, ◌++◌, map, reverse, length, sym, ap, ◌∙◌, subst, ap₂, ⊎_elim, true, arith}
use Rattle.std.proofs.lemmas.Bool.{cases_eq, eq-eqb, ne_eqb, lt-ltb, ltb-true, not-true, and_parts}
use Rattle.cases.specs.Literals.{complement}
use Rattle.cases.proofs.Tests.{eqb_swap}
use Rattle.calculus.specs.Trails as calculus
use Rattle.calculus.specs.Trails.{on, Levelled}
use Rattle.calculus.proofs.Literals.{complement_range, complement_swap}
use Rattle.calculus.proofs.Trails.{Distinct}
use Rattle.trails.specs.declared.entry.Entry.{Entry}
use Rattle.trails.specs.Entries.{trail_of, entry_of}
use Rattle.trails.specs.Kept.{WasUnset, WasNotFalse}
use Rattle.trails.specs.Trails.{has_place}
use Rattle.trails.proofs.Entries.{trail_none, trail_push}

small_apart : (es : List Entry) → WasUnset (map entry_of es) → WasNotFalse (map entry_of es) → Distinct 64 (map entry_of es)
small_apart [] u v = tt
small_apart (e ∷ es) u v = (record { in_range = e.small; not_set = u.0; not_false = v.0 }, small_apart es u.1 v.1)

pub apart_of : (es : List Entry) → WasUnset (trail_of es) → WasNotFalse (trail_of es) → Distinct 64 (trail_of es)
unfolding trail_of
apart_of es u v = small_apart (reverse es) u v

pub unset_of : (n : ℕ) (t : calculus.Trail) → Distinct n t → WasUnset t
unset_of n [] d = tt
unset_of n (e ∷ t) d = (d.0.not_set, unset_of n t d.1)

pub not_false_of : (n : ℕ) (t : calculus.Trail) → Distinct n t → WasNotFalse t
not_false_of n [] d = tt
not_false_of n (e ∷ t) d = (d.0.not_false, not_false_of n t d.1)

-- what joins a set as the complement of l
pub eqb_complement : (x l : ℕ) → eqb x (complement l) ≡ eqb l (complement x)
eqb_complement x l =
    ⊎_elim (λ (e : x ≡ complement l). eq-eqb x (complement l) e ∙ sym (eq-eqb l (complement x) (complement_swap x l (sym e))))
    (λ (e : x ≡ complement l → ⊥). ne_eqb x (complement l) e ∙ sym (ne_eqb l (complement x) (λ z. e (complement_swap l x (sym z)))))
    (cases_eq x (complement l))

-- where a literal has a place in a set, the second test changes nothing
pub has_bit : (x l : ℕ) → l < 128 → (eqb x l && ltb x 128) ≡ eqb l x
has_bit x l h =
    ⊎_elim (λ (e : x ≡ l). rw (eq-eqb x l e) (lt-ltb x 128 (omega arith) ∙ sym (eq-eqb l x (sym e)))) (λ (e : x ≡ l → ⊥). rw (ne_eqb x l e) (sym (ne_eqb l x (λ z. e (sym z)))))
    (cases_eq x l)

pub has_complement_bit : (x l : ℕ) → l < 128 → (eqb x (complement l) && ltb x 128) ≡ eqb l (complement x)
has_complement_bit x l h = has_bit x (complement l) (complement_range 64 l h) ∙ eqb_swap (complement l) x ∙ eqb_complement x l

-- what a literal that can join keeps
pub place_parts : (t : calculus.Trail) (l : ℕ) → has_place t l ≡ true → (length t < 56) × (l < 128) × (on t l ≡ false) × (on t (complement l) ≡ false)
place_parts t l h =
    let a = and_parts (ltb (length t) 56) (ltb l 128 && (not (on t l) && not (on t (complement l)))) h in
    let b = and_parts (ltb l 128) (not (on t l) && not (on t (complement l))) a.1 in
    let d = and_parts (not (on t l)) (not (on t (complement l))) b.1 in
    (ltb-true (length t) 56 a.0, ltb-true l 128 b.0, not-true (on t l) d.0, not-true (on t (complement l)) d.1)

-- what no entry keeps
module _ (es : List Entry) (none : es ≡ []) where
  empty_trail : trail_of es ≡ []
  empty_trail = ap trail_of none ∙ trail_none

  pub on_none : (x : ℕ) → false ≡ on (trail_of es) x
  unfolding on
  on_none x = sym (ap (λ (t : calculus.Trail). on t x) empty_trail)

  pub levelled_none : Levelled (trail_of es)
  levelled_none = subst Levelled (sym empty_trail) tt

  pub unset_none : WasUnset (trail_of es)
  unset_none = subst WasUnset (sym empty_trail) tt

  pub not_false_none : WasNotFalse (trail_of es)
  not_false_none = subst WasNotFalse (sym empty_trail) tt

-- one entry less
on_without : (e : calculus.Entry) (t : calculus.Trail) (x : ℕ) → on t e.literal ≡ false → (not (eqb x e.literal) && on (e ∷ t) x) ≡ on t x
unfolding on
on_without e t x h =
    ⊎_elim (λ (q : x ≡ e.literal). rw (eq-eqb x e.literal q) (sym (ap (on t) q ∙ h)))
    (λ (q : x ≡ e.literal → ⊥). rw (ne_eqb x e.literal q, ne_eqb e.literal x (λ z. q (sym z))))
    (cases_eq x e.literal)

-- the entries `long` are those of `short` and then e
module _ (short long : List Entry) (e : Entry) (more : long ≡ short ++ e ∷ []) where
  pub grown : trail_of long ≡ entry_of e ∷ trail_of short
  grown = ap trail_of more ∙ trail_push short e

  pub on_later : (x : ℕ) → on (trail_of long) x ≡ (eqb e.literal x || on (trail_of short) x)
  unfolding on
  on_later x = ap (λ (t : calculus.Trail). on t x) grown

  pub told_later : (s : ℕ → Bool) (x : ℕ) → s x ≡ on (trail_of short) x → ((eqb x e.literal && ltb x 128) || s x) ≡ on (trail_of long) x
  told_later s x old = ap₂ (λ (a b : Bool). a || b) (has_bit x e.literal e.small) old ∙ sym (on_later x)

  pub opposed_later : (s : ℕ → Bool) (x c : ℕ) → c ≡ complement e.literal → s x ≡ on (trail_of short) (complement x)
      → ((eqb x c && ltb x 128) || s x) ≡ on (trail_of long) (complement x)
  opposed_later s x c i old =
      ap (λ (z : ℕ). (eqb x z && ltb x 128) || s x) i ∙ ap₂ (λ (a b : Bool). a || b) (has_complement_bit x e.literal e.small) old ∙ sym (on_later (complement x))

  pub told_before : (s : ℕ → Bool) (x : ℕ) → on (trail_of short) e.literal ≡ false → s x ≡ on (trail_of long) x → (not (eqb x e.literal) && s x) ≡ on (trail_of short) x
  told_before s x new old =
      ap (λ (b : Bool). not (eqb x e.literal) && b) (old ∙ ap (λ (t : calculus.Trail). on t x) grown) ∙ on_without (entry_of e) (trail_of short) x new

  pub opposed_before : (s : ℕ → Bool) (x c : ℕ) → on (trail_of short) e.literal ≡ false → c ≡ complement e.literal → s x ≡ on (trail_of long) (complement x)
      → (not (eqb x c) && s x) ≡ on (trail_of short) (complement x)
  opposed_before s x c new j old =
      ap (λ (b : Bool). not b && s x) (ap (eqb x) j ∙ eqb_complement x e.literal ∙ eqb_swap e.literal (complement x)) ∙ told_before (λ (z : ℕ). s x) (complement x) new old
