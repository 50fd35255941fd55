-- What holds of every state that the calls lead to, and what of it follows from the laws of a kind and the limits of a pile.
use Rattle.std.proofs.Common.{◌≡◌, ℕ, zero, suc, ◌+◌, ◌-◌, ◌*◌, ◌/◌, ◌<◌, ◌≤◌, Bool, true, false, cond, not, ◌&&◌, eqb, ltb, List, [], ◌∷◌, ◌++◌, map, length, get_or, sym, refl, ap, ◌∙◌, subst, ⊎_elim, not-suc-le-zero, arith, length-append}
use mathlib.Core.Option.{Option, none, some}
use lib.ListN.{get_or-append, get_or-map, length-map}
use Rattle.std.proofs.lemmas.Bool.{both_ways, cases_Bool, or_left, or_right, and_parts, and_from, not-true, not-false, cases_lt, cases_eq, ne_eqb, lt-ltb}
use Rattle.cases.specs.Meanings.{Sound, sound}
use Rattle.cases.specs.Literals.{Literals, members, complement}
use Rattle.cases.specs.Choices.{keeps_all, sets}
use Rattle.cases.specs.Limits.{Limited}
use Rattle.charges.specs.Charges.{charge}
use Rattle.charges.specs.Kinds.{Kind, Laws}
use Rattle.charges.proofs.Sets.{charge_part}
use Rattle.calculus.specs.Scans.{any}
use Rattle.calculus.specs.Trails.{Trail, unset, on, Levelled}
use Rattle.calculus.specs.States.{Best, State, clauses, in_force, clause}
use Rattle.calculus.specs.Learned.{most_rows}
use Rattle.calculus.specs.Changes.{resolved, complements}
use Rattle.calculus.specs.Calculus.{Reasoned, FalseUnder, Free}
use Rattle.calculus.specs.Steps.{best_not_above}
use Rattle.calculus.specs.Checks.{all_exist, exist}
use Rattle.calculus.proofs.Scans.{any_some, any_no, none_some, some_same, any_yes}
use Rattle.calculus.proofs.Literals.{complement_range, complement_twice}
use Rattle.calculus.proofs.Choices.{Kept, exist-append, kept_by_rule, exist_at, keeps_at, sets_complement}
use Rattle.calculus.proofs.Trails.{Distinct, spent, room, on_one, unset_free, free_unset}

-- There is no best, or it is above the charge of S.
abbrev pub Better : (K : Kind) → Sound → Option (Best K) → Literals → Type 0
Better K m best S = (b : Best K) → best ≡ some b → K.not_above b.charge (charge K m S) ≡ false

-- Every choice that keeps the rules and is better than the best keeps the set C.
abbrev pub Implied : (K : Kind) → Sound → List (List ℕ) → Option (Best K) → Literals → Type 0
Implied K m rules best C = (c : List Bool) → length c ≡ m.options → keeps_all (sets c) rules ≡ true → Better K m best (sets c) → Kept m.options (sets c) C

-- 1 where the trail sets all options and the best is not above it, as just after Improve; else 0.
abbrev pub ripe : (K : Kind) → Sound → Trail → Option (Best K) → ℕ
ripe K m t best = cond (not (any m.options (unset t)) && best_not_above K m best (on t)) 1 0

-- The most steps from one conflict to the next, both ends counted once.
abbrev pub round : Sound → ℕ
round m = 2 * m.options + 3

pub record Inv (K : Kind) (m : Sound) (s : State K) : Type 0 where
  pub distinct : Distinct m.options s.trail
  pub levelled : Levelled s.trail
  pub reasoned : Reasoned m.options (clauses m s) s.trail
  pub conditions_fit : all_exist m.options s.conditions ≡ true
  pub best_admitted : (b : Best K) → s.best ≡ some b → (length b.choice ≡ m.options) × (keeps_all (sets b.choice) (in_force m s) ≡ true)
  pub best_charged : (b : Best K) → s.best ≡ some b → b.charge ≡ charge K m (sets b.choice)
  pub rows_implied : (j : ℕ) → j < length s.learned → Implied K m (in_force m s) s.best (get_or s.learned j (λ _. false))
  pub few_learned : length s.learned ≤ most_rows
  pub conflict_implied : (D : Literals) → s.conflict ≡ some D → Implied K m (in_force m s) s.best D
  pub conflict_false : (D : Literals) → s.conflict ≡ some D → FalseUnder m.options s.trail D
  -- without a conflict set
  pub idle : s.conflict ≡ none → (s.conflicts ≤ spent m.options s.trail) × (s.steps ≤ s.conflicts * round m + length s.trail + ripe K m s.trail s.best)
  -- with a conflict set
  pub busy : (D : Literals) → s.conflict ≡ some D → (s.conflicts ≤ spent m.options s.trail + room m.options s.trail) × (s.steps + 1 + length s.trail ≤ s.conflicts * round m)

pub get_d_append_right : {A : Type 0} (xs ys : List A) (i : ℕ) (d : A) → length xs ≤ i → get_or (xs ++ ys) i d ≡ get_or ys (i - length xs) d
get_d_append_right [] ys i d l = let e : i - 0 ≡ i = omega arith in rw e
get_d_append_right (x ∷ xs) ys zero d l = absurd (not-suc-le-zero l)
get_d_append_right (x ∷ xs) ys (suc i) d l = let e : suc i - suc (length xs) ≡ i - length xs = omega arith in rw e (get_d_append_right xs ys i d (omega arith))

pub length-clauses : {K : Kind} (m : Sound) (s : State K) → length (clauses m s) ≡ length (in_force m s) + length s.learned
unfolding clauses
length-clauses m s = length-append (map members (in_force m s)) s.learned ∙ ap (λ (k : ℕ). k + length s.learned) (length-map (in_force m s) members)

-- a clause is the set of a rule in force, or a row
pub clause_rule : {K : Kind} (m : Sound) (s : State K) (i : ℕ) → i < length (in_force m s) → clause (clauses m s) i ≡ members (get_or (in_force m s) i [])
unfolding clauses clause members
clause_rule m s i l = get_or-append (map members (in_force m s)) s.learned (λ _. false) i (rw (length-map (in_force m s) members) l) ∙ get_or-map members (in_force m s) i []

pub clause_row : {K : Kind} (m : Sound) (s : State K) (i : ℕ) → length (in_force m s) ≤ i → clause (clauses m s) i ≡ get_or s.learned (i - length (in_force m s)) (λ _. false)
unfolding clauses clause
clause_row m s i l =
    let e = length-map (in_force m s) members in
    get_d_append_right (map members (in_force m s)) s.learned i (λ _. false) (rw e l) ∙ ap (λ (k : ℕ). get_or s.learned (i - k) (λ _. false)) e

pub exist_by : (n : ℕ) (r : List ℕ) → ((j : ℕ) → j < length r → get_or r j 255 < 2 * n) → exist n r ≡ true
unfolding exist
exist_by n [] h = refl
exist_by n (l ∷ r) h = and_from (ltb l (2 * n)) (exist n r) (lt-ltb l (2 * n) (h 0 (omega arith))) (exist_by n r (λ j k. h (suc j) (omega arith)))

pub all_exist_by : (n : ℕ) (rs : List (List ℕ)) → ((r j : ℕ) → j < length (get_or rs r []) → get_or (get_or rs r []) j 255 < 2 * n) → all_exist n rs ≡ true
unfolding all_exist
all_exist_by n [] h = refl
all_exist_by n (r ∷ rs) h = and_from (exist n r) (all_exist n rs) (exist_by n r (h 0)) (all_exist_by n rs (λ k. h (suc k)))

-- the literals of a pile's rules exist
pub rules_exist : (m : Sound) → Limited (sound m) → all_exist m.options m.rules ≡ true
rules_exist m limited = all_exist_by m.options m.rules limited.literals_exist

module _ (K : Kind) (m : Sound) (limited : Limited (sound m)) (s : State K) (inv : Inv K m s) where
  rules_fit : all_exist m.options (in_force m s) ≡ true
  unfolding in_force
  rules_fit = exist-append m.options m.rules s.conditions (rules_exist m limited) inv.conditions_fit

  -- rules in force and rows alike are kept by every better choice
  pub clause_implied : (i : ℕ) → i < length (clauses m s) → Implied K m (in_force m s) s.best (clause (clauses m s) i)
  clause_implied i l =
      ⊎_elim
      (λ (h : i < length (in_force m s)).
      subst (Implied K m (in_force m s) s.best) (sym (clause_rule m s i h))
      (λ c _ k _. kept_by_rule m.options (sets c) (get_or (in_force m s) i []) (exist_at m.options (in_force m s) rules_fit i h) (keeps_at (sets c) (in_force m s) k i h)))
      (λ (h : length (in_force m s) ≤ i).
      subst (Implied K m (in_force m s) s.best) (sym (clause_row m s i h)) (inv.rows_implied (i - length (in_force m s)) (omega (arith, length-clauses m s))))
      (cases_lt i (length (in_force m s)))

-- Resolve keeps what is implied: a choice that keeps both sets keeps the resolved one.
pub kept_resolved : (n : ℕ) (c : List Bool) (D C : Literals) (l : ℕ) → Kept n (sets c) D → Kept n (sets c) C → Kept n (sets c) (resolved D l C)
unfolding resolved
kept_resolved n c D C l d k =
    ⊎_elim
    (λ (e : d.0 ≡ complement l).
    -- the choice sets the complement of l, so it keeps C by another literal than l
    let h : sets c l ≡ false = not-true (sets c l) (sym (sets_complement c l) ∙ subst (λ (z : ℕ). sets c z ≡ true) e d.3) in
    let ne : k.0 ≡ l → ⊥ = λ z. both_ways (sets c l) h (subst (λ (y : ℕ). sets c y ≡ true) z k.3) in (
      k.0,
      k.1,
      or_right (D k.0 && not (eqb k.0 (complement l))) (C k.0 && not (eqb k.0 l)) (and_from (C k.0) (not (eqb k.0 l)) k.2 (ap not (ne_eqb k.0 l ne))),
      k.3,
    ))
    (λ (e : d.0 ≡ complement l → ⊥). (
      d.0,
      d.1,
      or_left (D d.0 && not (eqb d.0 (complement l))) (C d.0 && not (eqb d.0 l)) (and_from (D d.0) (not (eqb d.0 (complement l))) d.2 (ap not (ne_eqb d.0 (complement l) e))),
      d.3,
    ))
    (cases_eq d.0 (complement l))

-- ConflOpt: a better choice does not hold the whole trail, so it sets the complement of one of its literals.
module _ (K : Kind) (laws : Laws K) (m : Sound) (limited : Limited (sound m)) where
  pub trail_implied : (rules : List (List ℕ)) (t : Trail) (b : Best K) → K.not_above b.charge (charge K m (on t)) ≡ true
      → Implied K m rules (some b) (complements t)
  unfolding complements
  trail_implied rules t b h c _ _ better =
      ⊎_elim
      (λ (e : any (2 * m.options) (λ x. on t (complement x) && sets c x) ≡ true).
      let w = any_some (2 * m.options) (λ x. on t (complement x) && sets c x) e in
      let p = and_parts (on t (complement w.0)) (sets c w.0) w.2 in
      (w.0, w.1, p.0, p.1))
      (λ (e : any (2 * m.options) (λ x. on t (complement x) && sets c x) ≡ false).
      absurd
      (both_ways (K.not_above b.charge (charge K m (sets c))) (better b refl)
      (laws.transitive _ _ _ h
      (charge_part K laws m (on t) (sets c) (λ y l k. held y l k (any_no (2 * m.options) (λ x. on t (complement x) && sets c x) e (complement y) (complement_range m.options y l)))))))
      (cases_Bool (any (2 * m.options) (λ x. on t (complement x) && sets c x)))
    where
      held : (y : ℕ) → y < 2 * m.options → on t y ≡ true → (on t (complement (complement y)) && sets c (complement y)) ≡ false → sets c y ≡ true
      held y l k f =
          let g : (on t y && sets c (complement y)) ≡ false = subst (λ (z : ℕ). (on t z && sets c (complement y)) ≡ false) (complement_twice y) f in
          not-false (sets c y) (sym (sets_complement c y) ∙ (rw k at g))

  -- Improve: what is better than the new best is better than the old one.
  pub better_old : (old : Option (Best K)) (new : Best K) (S R : Literals) → new.charge ≡ charge K m S → Better K m old S → Better K m (some new) R → Better K m old R
  better_old old new S R e o n b q =
      ⊎_elim
      (λ (h : K.not_above b.charge (charge K m R) ≡ true).
      let low : K.not_above (charge K m S) b.charge ≡ true =
      ⊎_elim (λ (z : K.not_above b.charge (charge K m S) ≡ true). absurd (both_ways _ (o b q) z)) (λ z. z) (laws.total _ _) in
      absurd
      (both_ways (K.not_above (charge K m S) (charge K m R)) (subst (λ (z : K.charges). K.not_above z (charge K m R) ≡ false) e (n new refl))
      (laws.transitive _ _ _ low h)))
      (λ h. h)
      (cases_Bool (K.not_above b.charge (charge K m R)))

pub best_not_below : (K : Kind) (m : Sound) (best : Option (Best K)) (S : Literals) → Better K m best S → best_not_above K m best S ≡ false
unfolding best_not_above
best_not_below K m none S h = refl
best_not_below K m (some b) S h = h b refl

pub not_below_best : (K : Kind) (m : Sound) (best : Option (Best K)) (S : Literals) → best_not_above K m best S ≡ false → Better K m best S
unfolding best_not_above
not_below_best K m none S h b e = absurd (none_some e)
not_below_best K m (some a) S h b e = subst (λ (z : Best K). K.not_above z.charge (charge K m S) ≡ false) (some_same e) h

-- a trail with no free literal holds just one of each literal and its complement
pub full_complement : (n : ℕ) (t : Trail) → Distinct n t → ((l : ℕ) → Free n t l → ⊥) → (l : ℕ) → l < 2 * n → on t (complement l) ≡ not (on t l)
full_complement n t d full l r =
    ⊎_elim (λ (h : on t l ≡ true). on_one n t l d h ∙ sym (ap not h))
    (λ (h : on t l ≡ false).
    ⊎_elim (λ (k : on t (complement l) ≡ true). k ∙ sym (ap not h)) (λ (k : on t (complement l) ≡ false). absurd (full l (record { in_range = r; not_set = h; not_false = k })))
    (cases_Bool (on t (complement l))))
    (cases_Bool (on t l))

pub full_set : (n : ℕ) (t : Trail) → ((l : ℕ) → Free n t l → ⊥) → any n (unset t) ≡ false
full_set n t full =
    ⊎_elim
    (λ (h : any n (unset t) ≡ true).
    let w = any_some n (unset t) h in
    let e : w.0 ≡ 2 * w.0 / 2 = omega arith in
    absurd (full (2 * w.0) (unset_free n t (2 * w.0) (omega (arith, w.1)) (subst (λ (v : ℕ). unset t v ≡ true) e w.2))))
    (λ h. h)
    (cases_Bool (any n (unset t)))

pub free_open : (n : ℕ) (t : Trail) (l : ℕ) → Free n t l → any n (unset t) ≡ true
free_open n t l f = any_yes n (unset t) (l / 2) (let r = f.in_range in omega arith) (free_unset n t l f)
