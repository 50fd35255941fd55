-- A rule as a list, place by place, against the same rule as a set: what a loop over its places finds; from the definitions
-- of the tests.
use Rattle.std.proofs.Common.{◌≡◌, ℕ, zero, suc, ◌*◌, ◌<◌, Bool, true, false, not, eqb, ltb, ◌⊎◌, List, [], ◌∷◌, map, length, get_or, sym, refl, ap, ◌∙◌, subst, ⊎_elim, not-suc-le-zero, arith}
use mathlib.Core.Option.{none, some}
use lib.ListN.{length-map, get_or-map}
use Rattle.std.proofs.lemmas.Bool.{both_ways, cases_Bool, cases_eq, or_cases, or_left, or_right, and_parts, and_left, and_right, true≢false, eqb-true, eq-eqb, ne_eqb, ltb-true}
use Rattle.cases.specs.Literals.{members, complement, Literals}
use Rattle.calculus.specs.Scans.{any, first, count, place}
use Rattle.calculus.specs.Trails.{Trail, on}
use Rattle.calculus.specs.Calculus.{Free}
use Rattle.calculus.specs.Steps.{is_false, alive, is_unit}
use Rattle.calculus.specs.Checks.{exist}
use Rattle.calculus.proofs.Scans.{any_some, any_yes, count_one, count_none}
use Rattle.calculus.proofs.Loops.{place_here, place_nowhere}
use Rattle.calculus.proofs.Tests.{alive_parts, alive_yes, forces_unit}

-- the literal at a place is a member, and a member has a place
pub members_at : (r : List ℕ) (j d : ℕ) → j < length r → members r (get_or r j d) ≡ true
unfolding members
members_at [] j d h = absurd (not-suc-le-zero h)
members_at (l ∷ r) zero d h = or_left (eqb l l) (members r l) (eq-eqb l l refl)
members_at (l ∷ r) (suc j) d h = or_right (eqb l (get_or r j d)) (members r (get_or r j d)) (members_at r j d (omega arith))

pub members_place : (r : List ℕ) (x d : ℕ) → members r x ≡ true → (j : ℕ) × (j < length r) × (get_or r j d ≡ x)
unfolding members
members_place [] x d h = absurd (true≢false (sym h))
members_place (l ∷ r) x d h =
    ⊎_elim (λ e. (0, omega arith, eqb-true l x e)) (λ e. let w = members_place r x d e in (suc w.0, omega (arith, w.1), w.2)) (or_cases (eqb l x) (members r x) h)

pub exist_place : (n : ℕ) (r : List ℕ) (j d : ℕ) → exist n r ≡ true → j < length r → get_or r j d < 2 * n
unfolding exist
exist_place n [] j d f h = absurd (not-suc-le-zero h)
exist_place n (l ∷ r) zero d f h = ltb-true l (2 * n) (and_parts (ltb l (2 * n)) (exist n r) f).0
exist_place n (l ∷ r) (suc j) d f h = exist_place n r j d (and_parts (ltb l (2 * n)) (exist n r) f).1 (omega arith)

-- d is what a reader is told outside the range, which no place needs
module _ (n : ℕ) (t : Trail) (r : List ℕ) (d : ℕ) where
  -- every place false: the rule is false
  pub rule_false : ((j : ℕ) → j < length r → on t (complement (get_or r j d)) ≡ true) → is_false n t (members r) ≡ true
  unfolding is_false
  rule_false h =
      ⊎_elim
      (λ (e : any (2 * n) (alive t (members r)) ≡ true).
      let w = any_some (2 * n) (alive t (members r)) e in
      let a = alive_parts t (members r) w.0 w.2 in
      let p = members_place r w.0 d a.0 in
      absurd (both_ways (on t (complement w.0)) a.1 (subst (λ (x : ℕ). on t (complement x) ≡ true) p.2 (h p.0 p.1))))
      (λ e. ap not e)
      (cases_Bool (any (2 * n) (alive t (members r))))

  -- one place not false: the rule is not false
  pub rule_not_false : exist n r ≡ true → (j : ℕ) → j < length r → on t (complement (get_or r j d)) ≡ false → is_false n t (members r) ≡ false
  unfolding is_false
  rule_not_false f j l h =
      ap not (any_yes (2 * n) (alive t (members r)) (get_or r j d) (exist_place n r j d f l) (alive_yes t (members r) (get_or r j d) (members_at r j d l) h))

  -- one literal unset and every place that one or false: the rule forces it
  pub rule_unit : exist n r ≡ true → (j : ℕ) → j < length r → Free n t (get_or r j d) → ((i : ℕ) → i < length r → (get_or r i d ≡ get_or r j d) ⊎ (on t (complement (get_or r i d)) ≡ true))
      → (is_unit n t (members r) ≡ true) × (first (2 * n) (alive t (members r)) ≡ get_or r j d)
  rule_unit f j l free h = forces_unit n t (members r) (get_or r j d) (record { in_rule = members_at r j d l; is_free = free; others_false = λ y _ m ne. alone y m ne })
    where
      alone : (y : ℕ) → members r y ≡ true → (y ≡ get_or r j d → ⊥) → on t (complement y) ≡ true
      alone y m ne =
          let p = members_place r y d m in
          ⊎_elim (λ e. absurd (ne (sym p.2 ∙ e))) (λ e. subst (λ (x : ℕ). on t (complement x) ≡ true) p.2 e) (h p.0 p.1)

  -- two different literals that are not false: the rule forces nothing
  pub rule_two : exist n r ≡ true → (i j : ℕ) → i < length r → j < length r → (get_or r i d ≡ get_or r j d → ⊥) → on t (complement (get_or r i d)) ≡ false → on t (complement (get_or r j d)) ≡ false
      → is_unit n t (members r) ≡ false
  unfolding is_unit
  rule_two f i j li lj ne hi hj =
      and_left (eqb (count (2 * n) (alive t (members r))) 1) (not (on t (first (2 * n) (alive t (members r)))))
      (ne_eqb (count (2 * n) (alive t (members r))) 1
      (λ e.
      let w = count_one (2 * n) (alive t (members r)) e in
      let a = w.2 (get_or r i d) (exist_place n r i d f li) (alive_yes t (members r) (get_or r i d) (members_at r i d li) hi) in
      let b = w.2 (get_or r j d) (exist_place n r j d f lj) (alive_yes t (members r) (get_or r j d) (members_at r j d lj) hj) in
      ne (a ∙ sym b)))

  -- a literal that is true: the rule forces nothing
  pub rule_true : exist n r ≡ true → (j : ℕ) → j < length r → on t (get_or r j d) ≡ true → on t (complement (get_or r j d)) ≡ false → is_unit n t (members r) ≡ false
  unfolding is_unit
  rule_true f j l h o =
      ⊎_elim
      (λ (e : count (2 * n) (alive t (members r)) ≡ 1).
      let w = count_one (2 * n) (alive t (members r)) e in
      let q = w.2 (get_or r j d) (exist_place n r j d f l) (alive_yes t (members r) (get_or r j d) (members_at r j d l) o) in
      and_right (eqb (count (2 * n) (alive t (members r))) 1) (not (on t (first (2 * n) (alive t (members r))))) (ap not (subst (λ (x : ℕ). on t x ≡ true) q h)))
      (λ (e : count (2 * n) (alive t (members r)) ≡ 1 → ⊥).
      and_left (eqb (count (2 * n) (alive t (members r))) 1) (not (on t (first (2 * n) (alive t (members r))))) (ne_eqb (count (2 * n) (alive t (members r))) 1 e))
      (cases_eq (count (2 * n) (alive t (members r))) 1)

  -- every place false: the rule forces nothing
  pub rule_none : ((j : ℕ) → j < length r → on t (complement (get_or r j d)) ≡ true) → is_unit n t (members r) ≡ false
  unfolding is_unit
  rule_none h =
      let z : count (2 * n) (alive t (members r)) ≡ 0 =
      count_none (2 * n) (alive t (members r))
      (λ x _.
      ⊎_elim
      (λ (e : alive t (members r) x ≡ true).
      let a = alive_parts t (members r) x e in
      let p = members_place r x d a.0 in
      absurd (both_ways (on t (complement x)) a.1 (subst (λ (y : ℕ). on t (complement y) ≡ true) p.2 (h p.0 p.1))))
      (λ e. e)
      (cases_Bool (alive t (members r) x))) in
      and_left (eqb (count (2 * n) (alive t (members r))) 1) (not (on t (first (2 * n) (alive t (members r))))) (ne_eqb (count (2 * n) (alive t (members r))) 1 (λ e. omega arith))

-- the first of some rules that passes a test on its set
pub rules_found : (p : Literals → Bool) (rs : List (List ℕ)) (i : ℕ) → i < length rs → ((j : ℕ) → j < i → p (members (get_or rs j [])) ≡ false) → p (members (get_or rs i [])) ≡ true
    → place p (map members rs) ≡ some i
rules_found p rs i l h e =
    place_here p (map members rs) (members []) i (rw (length-map rs members) l) (λ j k. ap p (get_or-map members rs j []) ∙ h j k) (ap p (get_or-map members rs i []) ∙ e)

pub rules_clear : (p : Literals → Bool) (rs : List (List ℕ)) → ((j : ℕ) → j < length rs → p (members (get_or rs j [])) ≡ false) → place p (map members rs) ≡ none
rules_clear p rs h = place_nowhere p (map members rs) (members []) (λ j k. ap p (get_or-map members rs j []) ∙ h j (rw (length-map rs members) at k))
