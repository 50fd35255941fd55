-- The questions that a step asks, each against what the calculus says, from the definitions of the tests.
use Rattle.std.proofs.Common.{◌≡◌, ℕ, suc, ◌+◌, ◌*◌, ◌/◌, ◌<◌, ◌≤◌, true, false, not, ◌&&◌, eqb, leb, ◌∷◌, sym, refl, ap, ◌∙◌, subst, inl, inr, ⊎_elim, arith}
use mathlib.Core.Option.{Option, none, some}
use Rattle.std.proofs.lemmas.Bool.{both_ways, cases_Bool, and_parts, and_from, not-true, not-false, true≢false, cases_eq, leb-true, le-leb, eqb-true, eqb-false, eq-eqb, ne_eqb}
use Rattle.cases.specs.Meanings.{Sound}
use Rattle.cases.specs.Literals.{Literals, complement}
use Rattle.charges.specs.Charges.{charge}
use Rattle.charges.specs.Kinds.{Kind}
use Rattle.calculus.specs.Scans.{any, first, count, greatest}
use Rattle.calculus.specs.Trails.{Trail, on, unset, Entry, level_of, decided, level, opened, Reason, Levelled}
use Rattle.calculus.specs.States.{Best}
use Rattle.calculus.specs.Calculus.{FalseUnder, Forces, Free, LowestUnset, AllSet, Asserts}
use Rattle.calculus.specs.Steps.{alive, is_false, is_unit, best_not_above, at_level, others, can_backtrack}
use Rattle.calculus.proofs.Scans.{any_no, any_some, count_one, count_only, first_yes, first_lowest, greatest_above, greatest_reached}
use Rattle.calculus.proofs.Literals.{complement_range, complement_twice, complement_swap}
use Rattle.calculus.proofs.Trails.{unset_free, level_of_le}
use Rattle.calculus.proofs.Learning.{Quiet}

-- a literal of a clause that is not false
pub alive_yes : (t : Trail) (C : Literals) (x : ℕ) → C x ≡ true → on t (complement x) ≡ false → alive t C x ≡ true
unfolding alive
alive_yes t C x h k = and_from (C x) (not (on t (complement x))) h (ap not k)

pub alive_parts : (t : Trail) (C : Literals) (x : ℕ) → alive t C x ≡ true → (C x ≡ true) × (on t (complement x) ≡ false)
unfolding alive
alive_parts t C x h = let w = and_parts (C x) (not (on t (complement x))) h in (w.0, not-true (on t (complement x)) w.1)

pub dead : (t : Trail) (C : Literals) (x : ℕ) → C x ≡ true → (alive t C x ≡ true → ⊥) → on t (complement x) ≡ true
dead t C x h k = ⊎_elim (λ e. e) (λ e. absurd (k (alive_yes t C x h e))) (cases_Bool (on t (complement x)))

-- a clause is false, or one of its literals is not
pub false_yes : (n : ℕ) (t : Trail) (C : Literals) → is_false n t C ≡ true → FalseUnder n t C
unfolding is_false
false_yes n t C h x l k = dead t C x k (λ q. both_ways (alive t C x) (any_no (2 * n) (alive t C) (not-true (any (2 * n) (alive t C)) h) x l) q)

pub false_no : (n : ℕ) (t : Trail) (C : Literals) → is_false n t C ≡ false → (x : ℕ) × (x < 2 * n) × (C x ≡ true) × (on t (complement x) ≡ false)
unfolding is_false
false_no n t C h =
    let w = any_some (2 * n) (alive t C) (not-false (any (2 * n) (alive t C)) h) in
    let p = alive_parts t C w.0 w.2 in
    (w.0, w.1, p.0, p.1)

pub not_false_under : (n : ℕ) (t : Trail) (C : Literals) → is_false n t C ≡ false → FalseUnder n t C → ⊥
not_false_under n t C h f = let w = false_no n t C h in both_ways (on t (complement w.0)) w.3 (f w.0 w.1 w.2)

-- a clause forces the literal that it leaves
pub unit_forces : (n : ℕ) (t : Trail) (C : Literals) → is_unit n t C ≡ true → Forces n t C (first (2 * n) (alive t C))
unfolding is_unit
unit_forces n t C h =
    let q = and_parts (eqb (count (2 * n) (alive t C)) 1) (not (on t (first (2 * n) (alive t C)))) h in
    let one = count_one (2 * n) (alive t C) (eqb-true (count (2 * n) (alive t C)) 1 q.0) in
    let l = first (2 * n) (alive t C) in
    let p = alive_parts t C l one.1 in
    record {
      in_rule = p.0;
      is_free = record { in_range = one.0; not_set = not-true (on t l) q.1; not_false = p.1 };
      others_false = λ x r k o. dead t C x k (λ z. o (one.2 x r z));
    }

pub forces_unit : (n : ℕ) (t : Trail) (C : Literals) (l : ℕ) → Forces n t C l → (is_unit n t C ≡ true) × (first (2 * n) (alive t C) ≡ l)
unfolding is_unit
forces_unit n t C l f =
    let here = alive_yes t C l f.in_rule f.is_free.not_false in
    let one = count_only (2 * n) (alive t C) l f.is_free.in_range here only in
    let w = count_one (2 * n) (alive t C) one in
    let e : first (2 * n) (alive t C) ≡ l = only (first (2 * n) (alive t C)) w.0 w.1 in (
      and_from (eqb (count (2 * n) (alive t C)) 1) (not (on t (first (2 * n) (alive t C)))) (eq-eqb (count (2 * n) (alive t C)) 1 one)
          (ap (λ (x : ℕ). not (on t x)) e ∙ ap not f.is_free.not_set),
      e,
    )
  where
    only : (y : ℕ) → y < 2 * n → alive t C y ≡ true → y ≡ l
    only y r a =
        let p = alive_parts t C y a in
        ⊎_elim (λ (e : y ≡ l). e) (λ (e : y ≡ l → ⊥). absurd (both_ways (on t (complement y)) p.1 (f.others_false y r p.0 e))) (cases_eq y l)

-- a clause that is neither false nor a unit leaves everything open
pub quiet : (n : ℕ) (t : Trail) (C : Literals) → is_false n t C ≡ false → is_unit n t C ≡ false → Quiet n t C
unfolding is_false
quiet n t C f u =
    let some_alive : any (2 * n) (alive t C) ≡ true = not-false (any (2 * n) (alive t C)) f in
    let one = first_yes (2 * n) (alive t C) some_alive in
    let x = first (2 * n) (alive t C) in
    let p = alive_parts t C x one.1 in
    ⊎_elim
    (λ (a : on t x ≡ true). inl (x, one.0, p.0, a))
    (λ (a : on t x ≡ false).
    let free : Free n t x = record { in_range = one.0; not_set = a; not_false = p.1 } in
    ⊎_elim
    (λ (b : any (2 * n) (λ y. alive t C y && not (eqb y x)) ≡ true).
    let w = any_some (2 * n) (λ y. alive t C y && not (eqb y x)) b in
    let v = and_parts (alive t C w.0) (not (eqb w.0 x)) w.2 in
    let q = alive_parts t C w.0 v.0 in
    ⊎_elim (λ (c : on t w.0 ≡ true). inl (w.0, w.1, q.0, c))
    (λ (c : on t w.0 ≡ false). inr (w.0, x, eqb-false w.0 x (not-true (eqb w.0 x) v.1), q.0, p.0, record { in_range = w.1; not_set = c; not_false = q.1 }, free))
    (cases_Bool (on t w.0)))
    (λ (b : any (2 * n) (λ y. alive t C y && not (eqb y x)) ≡ false).
    let forces : Forces n t C x = record {
      in_rule = p.0;
      is_free = free;
      others_false =
          λ y l k ne.
          dead t C y k
          (λ h.
          both_ways (alive t C y && not (eqb y x)) (any_no (2 * n) (λ z. alive t C z && not (eqb z x)) b y l)
          (and_from (alive t C y) (not (eqb y x)) h (ap not (ne_eqb y x ne))));
    } in
    absurd (both_ways (is_unit n t C) u (forces_unit n t C x forces).0))
    (cases_Bool (any (2 * n) (λ y. alive t C y && not (eqb y x)))))
    (cases_Bool (on t x))

-- there is a best that is not above the charge
pub best_not_above_yes : (K : Kind) (m : Sound) (o : Option (Best K)) (S : Literals) → best_not_above K m o S ≡ true → (b : Best K) × (o ≡ some b) × (K.not_above b.charge (charge K m S) ≡ true)
unfolding best_not_above
best_not_above_yes K m none S h = absurd (true≢false (sym h))
best_not_above_yes K m (some b) S h = (b, refl, h)

-- the lowest option that is unset, and no option that is
pub lowest_unset : (n : ℕ) (t : Trail) → any n (unset t) ≡ true → LowestUnset n t (first n (unset t))
lowest_unset n t h =
    let w = first_yes n (unset t) h in
    record { in_range = w.0; is_unset = w.1; lower_set = first_lowest n (unset t) }

pub all_set : (n : ℕ) (t : Trail) → any n (unset t) ≡ false → AllSet n t
all_set n t h = any_no n (unset t) h

-- both literals of an unset option are free
pub option_free : (n : ℕ) (t : Trail) (v : ℕ) → v < n → unset t v ≡ true → Free n t (2 * v) × Free n t (2 * v + 1)
option_free n t v r u =
    let even : v ≡ 2 * v / 2 = omega arith in
    let odd : v ≡ (2 * v + 1) / 2 = omega arith in
    (unset_free n t (2 * v) (omega arith) (subst (λ (z : ℕ). unset t z ≡ true) even u), unset_free n t (2 * v + 1) (omega arith) (subst (λ (z : ℕ). unset t z ≡ true) odd u))

-- levels
pub level_of_own : (e : Entry) (t : Trail) → level_of (e ∷ t) e.literal ≡ e.level
unfolding level_of
level_of_own e t = rw (eq-eqb e.literal e.literal refl)

pub level_of_other : (e : Entry) (t : Trail) (x : ℕ) → eqb e.literal x ≡ false → level_of (e ∷ t) x ≡ level_of t x
unfolding level_of
level_of_other e t x h = rw h

pub level_decided : (e : Entry) (t : Trail) → e.reason ≡ decided → level (e ∷ t) ≡ suc (level t)
unfolding level opened
level_decided e t w = ap (λ (r : Reason). opened r (level t)) w

pub at_level_yes : (t : Trail) (D : Literals) (k x : ℕ) → D x ≡ true → level_of t (complement x) ≡ k → at_level t D k x ≡ true
unfolding at_level
at_level_yes t D k x h e = and_from (D x) (eqb (level_of t (complement x)) k) h (eq-eqb (level_of t (complement x)) k e)

pub at_level_parts : (t : Trail) (D : Literals) (k x : ℕ) → at_level t D k x ≡ true → (D x ≡ true) × (level_of t (complement x) ≡ k)
unfolding at_level
at_level_parts t D k x h = let w = and_parts (D x) (eqb (level_of t (complement x)) k) h in (w.0, eqb-true (level_of t (complement x)) k w.1)

pub others_yes : (D : Literals) (L x : ℕ) → D x ≡ true → (x ≡ L → ⊥) → others D L x ≡ true
unfolding others
others_yes D L x h k = and_from (D x) (not (eqb x L)) h (ap not (ne_eqb x L k))

pub others_parts : (D : Literals) (L x : ℕ) → others D L x ≡ true → (D x ≡ true) × (x ≡ L → ⊥)
unfolding others
others_parts D L x h = let w = and_parts (D x) (not (eqb x L)) h in (w.0, eqb-false x L (not-true (eqb x L) w.1))

-- one literal is alone at the trail's level: Backtrack applies
pub alone_backtracks : (n : ℕ) (t : Trail) (D : Literals) (L : ℕ) → 1 ≤ level t → L < 2 * n → D L ≡ true → level_of t (complement L) ≡ level t
    → ((x : ℕ) → x < 2 * n → D x ≡ true → level_of t (complement x) ≡ level t → x ≡ L) → can_backtrack n t D ≡ true
unfolding can_backtrack
alone_backtracks n t D L pos r h top alone =
    and_from (leb 1 (level t)) (eqb (count (2 * n) (at_level t D (level t))) 1) (le-leb 1 (level t) pos)
    (eq-eqb (count (2 * n) (at_level t D (level t))) 1
    (count_only (2 * n) (at_level t D (level t)) L r (at_level_yes t D (level t) L h top)
    (λ y l q. let p = at_level_parts t D (level t) y q in alone y l p.0 p.1)))

pub asserts_backtracks : (n : ℕ) (t : Trail) (D : Literals) (L i : ℕ) → Asserts n t D L i → can_backtrack n t D ≡ true
asserts_backtracks n t D L i a = alone_backtracks n t D L a.not_ground a.in_range a.in_set a.at_top a.alone

-- a decided literal whose complement is in the set is alone at its level
pub top_alone : (n : ℕ) (e : Entry) (t : Trail) (D : Literals) → Levelled (e ∷ t) → e.literal < 2 * n → e.reason ≡ decided → D (complement e.literal) ≡ true → can_backtrack n (e ∷ t) D ≡ true
top_alone n e t D v r w h =
    let k = level_decided e t w in
    alone_backtracks n (e ∷ t) D (complement e.literal) (omega arith) (complement_range n e.literal r) h
    (ap (level_of (e ∷ t)) (complement_twice e.literal) ∙ level_of_own e t ∙ v.0)
    (λ y l q p.
    ⊎_elim (λ (z : eqb e.literal (complement y) ≡ true). complement_swap e.literal y (sym (eqb-true e.literal (complement y) z)))
    (λ (z : eqb e.literal (complement y) ≡ false). absurd (omega (arith, k, p, level_of_other e t (complement y) z, level_of_le t (complement y) v.1)))
    (cases_Bool (eqb e.literal (complement y))))

-- what Backtrack's question finds
pub asserts : (n : ℕ) (t : Trail) (D : Literals) → can_backtrack n t D ≡ true
    → Asserts n t D (first (2 * n) (at_level t D (level t))) (greatest (2 * n) (others D (first (2 * n) (at_level t D (level t)))) (λ x. level_of t (complement x)))
unfolding can_backtrack
asserts n t D h =
    let w = and_parts (leb 1 (level t)) (eqb (count (2 * n) (at_level t D (level t))) 1) h in
    let one = count_one (2 * n) (at_level t D (level t)) (eqb-true (count (2 * n) (at_level t D (level t))) 1 w.1) in
    let L = first (2 * n) (at_level t D (level t)) in
    let top = at_level_parts t D (level t) L one.1 in
    record {
      not_ground = leb-true 1 (level t) w.0;
      in_range = one.0;
      in_set = top.0;
      at_top = top.1;
      alone = λ x l k e. one.2 x l (at_level_yes t D (level t) x k e);
      others = λ x l k o. greatest_above (2 * n) (others D L) (λ y. level_of t (complement y)) x l (others_yes D L x k o);
      reached =
          ⊎_elim (λ z. inl z) (λ y. let o = others_parts D L y.0 y.2 in inr (y.0, y.1, o.0, o.1, y.3))
          (greatest_reached (2 * n) (others D L) (λ x. level_of t (complement x)));
    }
