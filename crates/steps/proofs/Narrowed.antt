-- Tests over all literals that a set tells apart, narrowed to the literals of a case: what the scans find is what the definition
-- asks for.
use Rattle.std.proofs.Common.{◌≡◌, ℕ, ◌+◌, ◌*◌, ◌/◌, ◌<◌, ◌≤◌, Bool, true, false, not, ◌&&◌, eqb, ltb, leb, sym, refl, ap, ◌∙◌, subst, ap₂, ⊎_elim, arith}
use mathlib.Core.Path.{fun_ext}
use Rattle.std.proofs.lemmas.Bool.{both_ways, cases_Bool, cases_lt, cases_eq, and_parts, and_from, and_left, and_right, eq-eqb, ne_eqb, eqb-true, lt-ltb, le-ltb, le-leb, lt-leb}
use Rattle.cases.specs.Literals.{Literals, complement}
use Rattle.cases.specs.Meanings.{Meaning, Sound}
use Rattle.cases.specs.Limits.{Limited}
use Rattle.cases.proofs.Tests.{complement_on, complement_off}
use Rattle.charges.specs.Charges.{contents}
use Rattle.charges.proofs.Contents.{contents_options}
use Rattle.calculus.specs.Scans.{any, first, count, greatest}
use Rattle.calculus.specs.Trails.{Trail, on, unset, level, level_of}
use Rattle.calculus.specs.Calculus.{Free, LowestUnset}
use Rattle.calculus.specs.Steps.{alive, is_false, is_unit, at_level, can_backtrack}
use Rattle.calculus.proofs.Scans.{any_yes, any_no, any_some, count_one, count_only, greatest_above, greatest_reached}
use Rattle.calculus.proofs.Loops.{first_here}
use Rattle.calculus.proofs.Tests.{unit_forces}
use Rattle.rules.specs.Scans.{span, within, misses, forces}

-- a case has so few options that a set can tell its literals apart
pub few_literals : (p : Meaning) (m : Sound) → contents p ≡ m → Limited p → 2 * m.options ≤ 128
few_literals p m e h = rw (← e) (omega (arith, contents_options p, h.few_options))

-- p is q below n, and false past it
module _ (n : ℕ) (p q : ℕ → Bool) (small : n ≤ span) (same : (x : ℕ) → x < n → p x ≡ q x) (past : (x : ℕ) → n ≤ x → p x ≡ false) where
  pub any_narrow : any span p ≡ any n q
  any_narrow =
      ⊎_elim
      (λ (e : any span p ≡ true).
      let w = any_some span p e in
      let l : w.0 < n = ⊎_elim (λ (h : w.0 < n). h) (λ (h : n ≤ w.0). absurd (both_ways (p w.0) (past w.0 h) w.2)) (cases_lt w.0 n) in
      e ∙ sym (any_yes n q w.0 l (sym (same w.0 l) ∙ w.2)))
      (λ (e : any span p ≡ false).
      ⊎_elim
      (λ (f : any n q ≡ true). let w = any_some n q f in absurd (both_ways (p w.0) (any_no span p e w.0 (omega (arith, w.1))) (same w.0 w.1 ∙ w.2)))
      (λ (f : any n q ≡ false). e ∙ sym f)
      (cases_Bool (any n q)))
      (cases_Bool (any span p))

  within_n : (x : ℕ) → p x ≡ true → x < n
  within_n x h = ⊎_elim (λ (l : x < n). l) (λ (l : n ≤ x). absurd (both_ways (p x) (past x l) h)) (cases_lt x n)

  pub one_narrow : count span p ≡ 1 → (count n q ≡ 1) × (first span p ≡ first n q)
  one_narrow e =
      let w = count_one span p e in
      let f = first span p in
      let l = within_n f w.1 in
      let only : (y : ℕ) → y < n → q y ≡ true → y ≡ f = λ y k h. w.2 y (omega arith) (same y k ∙ h) in
      let one = count_only n q f l (sym (same f l) ∙ w.1) only in
      let u = count_one n q one in
      (one, sym (only (first n q) u.0 u.1))

  pub one_widen : count n q ≡ 1 → count span p ≡ 1
  one_widen e =
      let w = count_one n q e in
      let f = first n q in
      count_only span p f (omega (arith, w.0)) (same f w.0 ∙ w.1) (λ y k h. w.2 y (within_n y h) (sym (same y (within_n y h)) ∙ h))

  -- just one passes p, and it does not pass r
  pub unit_narrow : (r : ℕ → Bool) → (eqb (count span p) 1 && not (r (first span p))) ≡ (eqb (count n q) 1 && not (r (first n q)))
  unit_narrow r =
      ⊎_elim
      (λ (e : count span p ≡ 1).
      let w = one_narrow e in
      ap₂ (λ (a b : Bool). a && b) (eq-eqb (count span p) 1 e ∙ sym (eq-eqb (count n q) 1 w.0)) (ap (λ (x : ℕ). not (r x)) w.1))
      (λ (e : count span p ≡ 1 → ⊥).
      and_left (eqb (count span p) 1) (not (r (first span p))) (ne_eqb (count span p) 1 e)
      ∙ sym (and_left (eqb (count n q) 1) (not (r (first n q))) (ne_eqb (count n q) 1 (λ f. e (one_widen f)))))
      (cases_eq (count span p) 1)

  pub greatest_narrow : (f : ℕ → ℕ) → greatest span p f ≡ greatest n q f
  greatest_narrow f =
      let low : greatest span p f ≤ greatest n q f =
      ⊎_elim (λ (z : greatest span p f ≡ 0). omega arith)
      (λ w. subst (λ (y : ℕ). y ≤ greatest n q f) w.3 (greatest_above n q f w.0 (within_n w.0 w.2) (sym (same w.0 (within_n w.0 w.2)) ∙ w.2)))
      (greatest_reached span p f) in
      let high : greatest n q f ≤ greatest span p f =
      ⊎_elim (λ (z : greatest n q f ≡ 0). omega arith)
      (λ w. subst (λ (y : ℕ). y ≤ greatest span p f) w.3 (greatest_above span p f w.0 (omega (arith, w.1)) (same w.0 w.1 ∙ w.2)))
      (greatest_reached n q f) in
      omega arith

-- L is the set of the literals of n options that the trail does not make false
module _ (n : ℕ) (t : Trail) (L : Literals) (few : 2 * n ≤ span) (live : (x : ℕ) → L x ≡ (ltb x (2 * n) && not (on t (complement x)))) where
  live_here : (x : ℕ) → x < 2 * n → L x ≡ not (on t (complement x))
  live_here x h = live x ∙ ap (λ (b : Bool). b && not (on t (complement x))) (lt-ltb x (2 * n) h)

  live_past : (x : ℕ) → 2 * n ≤ x → L x ≡ false
  live_past x h = live x ∙ and_left (ltb x (2 * n)) (not (on t (complement x))) (le-ltb x (2 * n) h)

  alive_here : (C : Literals) (x : ℕ) → x < 2 * n → within L C x ≡ alive t C x
  unfolding alive
  alive_here C x h = ap (λ (b : Bool). C x && b) (live_here x h)

  alive_past : (C : Literals) (x : ℕ) → 2 * n ≤ x → within L C x ≡ false
  alive_past C x h = and_right (C x) (L x) (live_past x h)

  pub misses_false : misses L ≡ is_false n t
  unfolding misses is_false
  misses_false = fun_ext (λ C. ap not (any_narrow (2 * n) (within L C) (alive t C) few (alive_here C) (alive_past C)))

  -- R is the set of the literals on the trail
  module _ (R : Literals) (held : (x : ℕ) → R x ≡ on t x) where
    pub forces_unit : forces L R ≡ is_unit n t
    unfolding forces is_unit
    forces_unit =
        fun_ext
        (λ C. unit_narrow (2 * n) (within L C) (alive t C) few (alive_here C) (alive_past C) R
        ∙ ap (λ (b : Bool). eqb (count (2 * n) (alive t C)) 1 && not b) (held (first (2 * n) (alive t C))))

    -- the literal that a rule forces is the one of the definition, and is free
    pub forced_literal : (C : Literals) → forces L R C ≡ true → (first span (within L C) ≡ first (2 * n) (alive t C)) × Free n t (first (2 * n) (alive t C))
    unfolding forces
    forced_literal C h =
        let one = eqb-true (count span (within L C)) 1 (and_parts (eqb (count span (within L C)) 1) (not (R (first span (within L C)))) h).0 in (
          (one_narrow (2 * n) (within L C) (alive t C) few (alive_here C) (alive_past C) one).1,
          (unit_forces n t C (ap (λ (f : Literals → Bool). f C) (sym forces_unit) ∙ h)).is_free,
        )

    -- an option is unset where its literals are in L and not in R
    pub unset_lone : (v : ℕ) → v < n → unset t v ≡ (not (R (2 * v)) && L (2 * v))
    unfolding unset
    unset_lone v h =
        ap₂ (λ (a b : Bool). a && b) (ap not (sym (held (2 * v))))
        (ap (λ (x : ℕ). not (on t x)) (sym (complement_on v)) ∙ sym (live_here (2 * v) (omega arith)))

    odd_lone : (v : ℕ) → v < n → (not (R (2 * v + 1)) && L (2 * v + 1)) ≡ (not (R (2 * v)) && L (2 * v))
    odd_lone v h =
        ap₂ (λ (a b : Bool). a && b) (ap not (held (2 * v + 1)) ∙ not_even) (live_here (2 * v + 1) (omega arith) ∙ ap (λ (x : ℕ). not (on t x)) (complement_off v) ∙ ap not (sym (held (2 * v))))
        ∙ swap (L (2 * v)) (not (R (2 * v)))
      where
        not_even : not (on t (2 * v + 1)) ≡ L (2 * v)
        not_even = ap (λ (x : ℕ). not (on t x)) (sym (complement_on v)) ∙ sym (live_here (2 * v) (omega arith))

        swap : (a b : Bool) → (a && b) ≡ (b && a)
        swap true true = refl
        swap true false = refl
        swap false true = refl
        swap false false = refl

    -- the option of the lowest such literal is the lowest that is unset
    pub lowest_unset : (l : ℕ) → (not (R l) && L l) ≡ true → ((k : ℕ) → k < l → (not (R k) && L k) ≡ false) → LowestUnset n t (l / 2)
    lowest_unset l yes-l none =
        let v = l / 2 in
        let h : l < 2 * n = ⊎_elim (λ (k : l < 2 * n). k) (λ (k : 2 * n ≤ l). absurd (both_ways (not (R l) && L l) (and_right (not (R l)) (L l) (live_past l k)) yes-l)) (cases_lt l (2 * n)) in
        let w : v < n = omega arith in
        let even : (not (R (2 * v)) && L (2 * v)) ≡ true =
        ⊎_elim (λ (e : l ≡ 2 * v). subst (λ (x : ℕ). (not (R x) && L x) ≡ true) e yes-l)
        (λ (e : l ≡ 2 * v → ⊥). let o : l ≡ 2 * v + 1 = omega arith in sym (odd_lone v w) ∙ subst (λ (x : ℕ). (not (R x) && L x) ≡ true) o yes-l) (cases_eq l (2 * v)) in
        let here = unset_lone v w ∙ even in
        record { in_range = w; is_unset = here; lower_set = λ j k. unset_lone j (omega arith) ∙ none (2 * j) (omega arith) }

    pub none_unset : ((k : ℕ) → (not (R k) && L k) ≡ false) → any n (unset t) ≡ false
    none_unset none =
        ⊎_elim (λ (e : any n (unset t) ≡ true). let w = any_some n (unset t) e in absurd (both_ways (unset t w.0) (unset_lone w.0 w.1 ∙ none (2 * w.0)) w.2)) (λ e. e)
        (cases_Bool (any n (unset t)))

-- the conflict set D: M is what it has at the trail's level
module _ (n : ℕ) (t : Trail) (D M : Literals) (few : 2 * n ≤ span) (pos : 1 ≤ level t)
    (at_top : (x : ℕ) → M x ≡ (((on t (complement x) && eqb (level_of t (complement x)) (level t)) && D x) && ltb x (2 * n)))
    (unset_ground : (x : ℕ) → on t (complement x) ≡ false → level_of t (complement x) ≡ 0) where
  top_here : (x : ℕ) → x < 2 * n → M x ≡ at_level t D (level t) x
  unfolding at_level
  top_here x h =
      at_top x ∙ ap (λ (b : Bool). ((on t (complement x) && eqb (level_of t (complement x)) (level t)) && D x) && b) (lt-ltb x (2 * n) h)
      ∙ by_on (on t (complement x)) refl
    where
      drop_true : (a : Bool) → (a && true) ≡ a
      drop_true true = refl
      drop_true false = refl

      swap : (a b : Bool) → (a && b) ≡ (b && a)
      swap true true = refl
      swap true false = refl
      swap false true = refl
      swap false false = refl

      by_on : (o : Bool) → on t (complement x) ≡ o → (((o && eqb (level_of t (complement x)) (level t)) && D x) && true) ≡ (D x && eqb (level_of t (complement x)) (level t))
      by_on true e = drop_true (eqb (level_of t (complement x)) (level t) && D x) ∙ swap (eqb (level_of t (complement x)) (level t)) (D x)
      by_on false e = sym (and_right (D x) (eqb (level_of t (complement x)) (level t)) (ne_eqb (level_of t (complement x)) (level t) (λ z. omega (arith, unset_ground x e, z))))

  top_past : (x : ℕ) → 2 * n ≤ x → M x ≡ false
  top_past x h = at_top x ∙ and_right ((on t (complement x) && eqb (level_of t (complement x)) (level t)) && D x) (ltb x (2 * n)) (le-ltb x (2 * n) h)

  pub one_asserted : (l : ℕ) → l < span → ((k : ℕ) → k < span → M k ≡ eqb k l) → (can_backtrack n t D ≡ true) × (l ≡ first (2 * n) (at_level t D (level t)))
  unfolding can_backtrack
  one_asserted l lit only =
      let here : M l ≡ true = only l lit ∙ eq-eqb l l refl in
      let low : l < 2 * n = ⊎_elim (λ (k : l < 2 * n). k) (λ (k : 2 * n ≤ l). absurd (both_ways (M l) (top_past l k) here)) (cases_lt l (2 * n)) in
      let one = count_only (2 * n) (at_level t D (level t)) l low (sym (top_here l low) ∙ here) (λ y k h. eqb-true y l (sym (only y (omega arith)) ∙ top_here y k ∙ h)) in
      let w = count_one (2 * n) (at_level t D (level t)) one in (
        and_from (leb 1 (level t)) (eqb (count (2 * n) (at_level t D (level t))) 1) (le-leb 1 (level t) pos) (eq-eqb (count (2 * n) (at_level t D (level t))) 1 one),
        w.2 l low (sym (top_here l low) ∙ here),
      )

  pub none_asserted : ((l : ℕ) → l < span → ((k : ℕ) → k < span → M k ≡ eqb k l) → ⊥) → can_backtrack n t D ≡ false
  unfolding can_backtrack
  none_asserted none =
      and_right (leb 1 (level t)) (eqb (count (2 * n) (at_level t D (level t))) 1)
      (ne_eqb (count (2 * n) (at_level t D (level t))) 1
      (λ e.
      let w = count_one (2 * n) (at_level t D (level t)) e in
      let l = first (2 * n) (at_level t D (level t)) in
      none l (omega (arith, w.0))
      (λ k _.
      ⊎_elim (λ (z : k ≡ l). subst (λ (y : ℕ). M y ≡ eqb y l) (sym z) (top_here l w.0 ∙ w.1 ∙ sym (eq-eqb l l refl)))
      (λ (z : k ≡ l → ⊥).
      ⊎_elim
      (λ (h : k < 2 * n). ⊎_elim (λ (a : M k ≡ true). absurd (z (w.2 k h (sym (top_here k h) ∙ a)))) (λ (a : M k ≡ false). a) (cases_Bool (M k)) ∙ sym (ne_eqb k l z))
      (λ (h : 2 * n ≤ k). top_past k h ∙ sym (ne_eqb k l z))
      (cases_lt k (2 * n)))
      (cases_eq k l))))

pub no_level : (n : ℕ) (t : Trail) (D : Literals) → level t ≡ 0 → can_backtrack n t D ≡ false
unfolding can_backtrack
no_level n t D e = and_left (leb 1 (level t)) (eqb (count (2 * n) (at_level t D (level t))) 1) (lt-leb 1 (level t) (omega arith))

-- whether the part M of D below 2n is empty
pub empty_told : (n : ℕ) (D M : Literals) (b : Bool) → 2 * n ≤ span → ((x : ℕ) → M x ≡ (D x && ltb x (2 * n))) → (b ≡ true → (x : ℕ) → M x ≡ false) → (((x : ℕ) → x < span → M x ≡ false) → b ≡ true)
    → b ≡ not (any (2 * n) D)
empty_told n D M b few meets all_of none_of =
    told (any span M) refl
    ∙ ap not
    (any_narrow (2 * n) M D few (λ x h. meets x ∙ ap (λ (c : Bool). D x && c) (lt-ltb x (2 * n) h) ∙ and_true (D x))
    (λ x h. meets x ∙ and_right (D x) (ltb x (2 * n)) (le-ltb x (2 * n) h)))
  where
    and_true : (a : Bool) → (a && true) ≡ a
    and_true true = refl
    and_true false = refl

    told : (c : Bool) → any span M ≡ c → b ≡ not c
    told true e =
        let w = any_some span M e in
        ⊎_elim (λ (h : b ≡ true). absurd (both_ways (M w.0) (all_of h w.0) w.2)) (λ (h : b ≡ false). h) (cases_Bool b)
    told false e = none_of (λ x h. any_no span M e x h)

-- what it is for an option to be the lowest unset one
pub lowest_first : (n : ℕ) (t : Trail) (v : ℕ) → LowestUnset n t v → (v ≡ first n (unset t)) × (any n (unset t) ≡ true)
lowest_first n t v w = (sym (first_here n (unset t) v w.in_range w.lower_set w.is_unset), any_yes n (unset t) v w.in_range w.is_unset)
