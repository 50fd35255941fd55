-- What a look at a rule, place by place or as a set, tells of the literals that it has in a set; and the first of all rules that
-- passes a test, from the first of those in force and the first of the learned ones.
use Rattle.std.proofs.Common.{◌≡◌, ℕ, ◌+◌, ◌-◌, ◌<◌, ◌≤◌, Bool, true, false, not, ◌&&◌, eqb, List, length, get_or, sym, refl, ap, ◌∙◌, subst, ⊎_elim, arith}
use mathlib.Core.Option as core
use Rattle.std.proofs.lemmas.Bool.{both_ways, cases_Bool, cases_lt, cases_eq, and_parts, and_from, and_left, and_right, eq-eqb, ne_eqb, eqb-true}
use Rattle.cases.specs.Literals.{Literals, members}
use Rattle.calculus.specs.Scans.{any, first, count, place}
use Rattle.calculus.specs.States.{clause}
use Rattle.calculus.proofs.Scans.{any_yes, any_no, any_some, count_one, count_only}
use Rattle.calculus.proofs.Loops.{place_here, place_nowhere}
use Rattle.calculus.proofs.Rules.{members_at, members_place}
use Rattle.tables.specs.declared.learned.Learned.{Learned}
use Rattle.tables.specs.Learned.{rows_of}
use Rattle.rules.specs.Force.{InForce, all_rules, rule, all_clauses, row}
use Rattle.rules.specs.Scans.{span, within, misses, forces}
use Rattle.rules.proofs.Clauses.{clauses_are, clause_rule, clause_row}

module _ (S C : Literals) where
  -- no literal in S, or one
  pub misses_yes : ((x : ℕ) → x < span → C x ≡ true → S x ≡ false) → misses S C ≡ true
  unfolding misses
  misses_yes h =
      ⊎_elim
      (λ (e : any span (within S C) ≡ true).
      let w = any_some span (within S C) e in
      let a = and_parts (C w.0) (S w.0) w.2 in
      absurd (both_ways (S w.0) (h w.0 w.1 a.0) a.1))
      (λ (e : any span (within S C) ≡ false). ap not e)
      (cases_Bool (any span (within S C)))

  pub misses_no : (x : ℕ) → x < span → C x ≡ true → S x ≡ true → misses S C ≡ false
  unfolding misses
  misses_no x l c s = ap not (any_yes span (within S C) x l (and_from (C x) (S x) c s))

  -- the answer b to whether the common set M is empty tells it
  pub misses_told : (M : Literals) (b : Bool) → ((k : ℕ) → M k ≡ (C k && S k)) → (b ≡ true → (k : ℕ) → M k ≡ false) → (((k : ℕ) → k < span → M k ≡ false) → b ≡ true)
      → misses S C ≡ b
  unfolding misses
  misses_told M b meets all_of none_of =
      ⊎_elim
      (λ (e : any span (within S C) ≡ true).
      let w = any_some span (within S C) e in
      ⊎_elim (λ (h : b ≡ true). absurd (both_ways (M w.0) (all_of h w.0) (meets w.0 ∙ w.2))) (λ (h : b ≡ false). ap not e ∙ sym h) (cases_Bool b))
      (λ (e : any span (within S C) ≡ false). ap not e ∙ sym (none_of (λ k l. meets k ∙ any_no span (within S C) e k l)))
      (cases_Bool (any span (within S C)))

  module _ (R : Literals) where
    -- the one literal of C in S
    pub forces_yes : (l : ℕ) → l < span → C l ≡ true → S l ≡ true → ((x : ℕ) → x < span → C x ≡ true → S x ≡ true → x ≡ l) → R l ≡ false → (forces S R C ≡ true) × (l ≡ first span (within S C))
    unfolding forces
    forces_yes l h c s only r =
        let one = count_only span (within S C) l h (and_from (C l) (S l) c s) (λ y k w. let a = and_parts (C y) (S y) w in only y k a.0 a.1) in
        let f = count_one span (within S C) one in
        let a = and_parts (C (first span (within S C))) (S (first span (within S C))) f.1 in
        let same : first span (within S C) ≡ l = only (first span (within S C)) f.0 a.0 a.1 in
        (and_from (eqb (count span (within S C)) 1) (not (R (first span (within S C)))) (eq-eqb (count span (within S C)) 1 one) (ap (λ (x : ℕ). not (R x)) same ∙ ap not r), sym same)

    -- a literal in S that is in R
    pub forces_settled : (l : ℕ) → l < span → C l ≡ true → S l ≡ true → R l ≡ true → forces S R C ≡ false
    unfolding forces
    forces_settled l h c s r =
        ⊎_elim
        (λ (e : count span (within S C) ≡ 1).
        let f = count_one span (within S C) e in
        let same : l ≡ first span (within S C) = f.2 l h (and_from (C l) (S l) c s) in
        and_right (eqb (count span (within S C)) 1) (not (R (first span (within S C)))) (ap (λ (x : ℕ). not (R x)) (sym same) ∙ ap not r))
        (λ (e : count span (within S C) ≡ 1 → ⊥). and_left (eqb (count span (within S C)) 1) (not (R (first span (within S C)))) (ne_eqb (count span (within S C)) 1 e))
        (cases_eq (count span (within S C)) 1)

    -- two literals in S
    pub forces_two : (k l : ℕ) → k < span → l < span → C k ≡ true → S k ≡ true → C l ≡ true → S l ≡ true → (k ≡ l → ⊥) → forces S R C ≡ false
    unfolding forces
    forces_two k l hk hl ck sk cl sl apart =
        and_left (eqb (count span (within S C)) 1) (not (R (first span (within S C))))
        (ne_eqb (count span (within S C)) 1
        (λ e.
        let f = count_one span (within S C) e in
        apart (f.2 k hk (and_from (C k) (S k) ck sk) ∙ sym (f.2 l hl (and_from (C l) (S l) cl sl)))))

    -- none
    pub forces_none : ((x : ℕ) → x < span → C x ≡ true → S x ≡ false) → forces S R C ≡ false
    unfolding forces
    forces_none h =
        and_left (eqb (count span (within S C)) 1) (not (R (first span (within S C))))
        (ne_eqb (count span (within S C)) 1
        (λ e.
        let f = count_one span (within S C) e in
        let a = and_parts (C (first span (within S C))) (S (first span (within S C))) f.1 in
        both_ways (S (first span (within S C))) (h (first span (within S C)) f.0 a.0) a.1))

    -- from the common set M, which has just the literal l, or not just one
    module _ (M : Literals) (meets : (k : ℕ) → M k ≡ (C k && S k)) where
      module _ (l : ℕ) (h : l < span) (one : (k : ℕ) → k < span → M k ≡ eqb k l) where
        here : (C l ≡ true) × (S l ≡ true)
        here = and_parts (C l) (S l) (sym (meets l) ∙ one l h ∙ eq-eqb l l refl)

        pub forces_only : R l ≡ false → (forces S R C ≡ true) × (l ≡ first span (within S C))
        forces_only r = forces_yes l h here.0 here.1 (λ x b c s. eqb-true x l (sym (one x b) ∙ meets x ∙ and_from (C x) (S x) c s)) r

        pub forces_only_settled : R l ≡ true → forces S R C ≡ false
        forces_only_settled r = forces_settled l h here.0 here.1 r

      pub forces_many : ((l : ℕ) → l < span → ((k : ℕ) → k < span → M k ≡ eqb k l) → ⊥) → forces S R C ≡ false
      unfolding forces
      forces_many none =
          and_left (eqb (count span (within S C)) 1) (not (R (first span (within S C))))
          (ne_eqb (count span (within S C)) 1
          (λ e.
          let f = count_one span (within S C) e in
          let l = first span (within S C) in
          none l f.0
          (λ k h.
          ⊎_elim
          (λ (z : k ≡ l). subst (λ (y : ℕ). M y ≡ eqb y l) (sym z) (meets l ∙ f.1 ∙ sym (eq-eqb l l refl)))
          (λ (z : k ≡ l → ⊥). ⊎_elim (λ (a : M k ≡ true). absurd (z (f.2 k h (sym (meets k) ∙ a)))) (λ (a : M k ≡ false). a) (cases_Bool (M k)) ∙ sym (ne_eqb k l z))
          (cases_eq k l))))

-- a rule as a list, place by place
module _ (S : Literals) (r : List ℕ) where
  -- where no place up to the end has a literal in S
  pub none_in : ((j : ℕ) → j < length r → S (get_or r j 255) ≡ false) → (x : ℕ) → x < span → members r x ≡ true → S x ≡ false
  none_in h x l m =
      let q = members_place r x 255 m in
      subst (λ (y : ℕ). S y ≡ false) q.2 (h q.0 q.1)

  pub rule_misses : ((j : ℕ) → j < length r → S (get_or r j 255) ≡ false) → misses S (members r) ≡ true
  rule_misses h = misses_yes S (members r) (none_in h)

  pub rule_meets : (j : ℕ) → j < length r → get_or r j 255 < span → S (get_or r j 255) ≡ true → misses S (members r) ≡ false
  rule_meets j h b s = misses_no S (members r) (get_or r j 255) b (members_at r j 255 h) s

  module _ (R : Literals) where
    pub rule_settled : (j : ℕ) → j < length r → get_or r j 255 < span → S (get_or r j 255) ≡ true → R (get_or r j 255) ≡ true → forces S R (members r) ≡ false
    rule_settled j h b s q = forces_settled S (members r) R (get_or r j 255) b (members_at r j 255 h) s q

    pub rule_two : (i j : ℕ) → i < length r → j < length r → get_or r i 255 < span → get_or r j 255 < span → S (get_or r i 255) ≡ true → S (get_or r j 255) ≡ true → (get_or r i 255 ≡ get_or r j 255 → ⊥) → forces S R (members r) ≡ false
    rule_two i j hi hj bi bj si sj apart =
        forces_two S (members r) R (get_or r i 255) (get_or r j 255) bi bj (members_at r i 255 hi) si (members_at r j 255 hj) sj apart

    pub rule_none : ((j : ℕ) → j < length r → S (get_or r j 255) ≡ false) → forces S R (members r) ≡ false
    rule_none h = forces_none S (members r) R (none_in h)

    pub rule_one : (i : ℕ) → i < length r → get_or r i 255 < span → S (get_or r i 255) ≡ true → R (get_or r i 255) ≡ false → ((j : ℕ) → j < length r → S (get_or r j 255) ≡ true → get_or r j 255 ≡ get_or r i 255)
        → (forces S R (members r) ≡ true) × (get_or r i 255 ≡ first span (within S (members r)))
    rule_one i h b s q only =
        forces_yes S (members r) R (get_or r i 255) b (members_at r i 255 h) s
        (λ x l m t.
        let w = members_place r x 255 m in
        sym w.2 ∙ only w.0 w.1 (subst (λ (y : ℕ). S y ≡ true) (sym w.2) t))
        q

-- the first of all rules that passes the test p
module _ (f : InForce) (l : Learned) (p : Literals → Bool) where
  abbrev rule_passes : ℕ → Bool
  rule_passes q = p (members (rule f q))

  abbrev row_passes : ℕ → Bool
  row_passes q = p (row l q)

  at_rule : (b : Bool) (q : ℕ) → q < length (all_rules f) → rule_passes q ≡ b → p (get_or (all_clauses f l) q (λ _. false)) ≡ b
  unfolding clause
  at_rule b q h e = ap p (clause_rule f l q h) ∙ e

  at_row : (b : Bool) (q : ℕ) → row_passes q ≡ b → p (get_or (all_clauses f l) (length (all_rules f) + q) (λ _. false)) ≡ b
  unfolding clause
  at_row b q e =
      let r = length (all_rules f) in
      let k : r + q - r ≡ q = omega arith in
      ap p (clause_row f l (r + q) (omega arith)) ∙ ap row_passes k ∙ e

  before_row : (i : ℕ) → ((q : ℕ) → q < length (all_rules f) → rule_passes q ≡ false) → ((q : ℕ) → q < i → row_passes q ≡ false)
      → (q : ℕ) → q < length (all_rules f) + i → p (get_or (all_clauses f l) q (λ _. false)) ≡ false
  before_row i h k q b =
      let r = length (all_rules f) in
      ⊎_elim (λ (z : q < r). at_rule false q z (h q z))
      (λ (z : r ≤ q).
      let e : r + (q - r) ≡ q = omega arith in
      ap (λ (x : ℕ). p (get_or (all_clauses f l) x (λ _. false))) (sym e) ∙ at_row false (q - r) (k (q - r) (omega arith)))
      (cases_lt q r)

  pub in_rules : (i : ℕ) → i < length (all_rules f) → ((q : ℕ) → q < i → rule_passes q ≡ false) → rule_passes i ≡ true → place p (all_clauses f l) ≡ core.some i
  in_rules i b h e = place_here p (all_clauses f l) (λ _. false) i (omega (arith, clauses_are f l)) (λ q k. at_rule false q (omega arith) (h q k)) (at_rule true i b e)

  pub in_rows : (i : ℕ) → i < length (rows_of l) → ((q : ℕ) → q < length (all_rules f) → rule_passes q ≡ false) → ((q : ℕ) → q < i → row_passes q ≡ false) → row_passes i ≡ true
      → place p (all_clauses f l) ≡ core.some (length (all_rules f) + i)
  in_rows i b h k e = place_here p (all_clauses f l) (λ _. false) (length (all_rules f) + i) (omega (arith, clauses_are f l)) (before_row i h k) (at_row true i e)

  pub nowhere : ((q : ℕ) → q < length (all_rules f) → rule_passes q ≡ false) → ((q : ℕ) → q < length (rows_of l) → row_passes q ≡ false) → place p (all_clauses f l) ≡ core.none
  nowhere h k = place_nowhere p (all_clauses f l) (λ _. false) (λ q b. before_row (length (rows_of l)) h k q (omega (arith, clauses_are f l)))
