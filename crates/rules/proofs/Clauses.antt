-- The rules in force and the learned ones, place by place, from where they stand: in the pile, among the conditions, in the
-- learned table.
use Rattle.std.proofs.Common.{◌≡◌, ℕ, ◌+◌, ◌-◌, ◌<◌, ◌≤◌, Bool, true, false, ◌&&◌, ◌||◌, eqb, ltb, List, [], ◌∷◌, ◌++◌, map, length, get_or, take, refl, ap, ◌∙◌, ap₂, ⊎_elim, arith, length-append}
use lib.ListN.{length-map, get_or-append}
use Rattle.std.proofs.lemmas.Bool.{cases_eq, eq-eqb, ne_eqb, lt-ltb}
use Rattle.std.proofs.lemmas.List.{get_or-map, take_more, get_or_append_left, get_or-append_right}
use Rattle.cases.specs.Literals.{members}
use Rattle.cases.specs.Meanings.{Meaning, rules_of}
use Rattle.cases.proofs.Tests.{eqb_swap}
use Rattle.charges.proofs.Contents.{contents_rules}
use Rattle.calculus.specs.States.{clause}
use Rattle.tables.specs.declared.conditions.Conditions.{Conditions}
use Rattle.tables.specs.declared.learned.Learned.{Learned}
use Rattle.tables.specs.Conditions.{conditions_of}
use Rattle.tables.specs.Learned.{rows_of, rules_learned}
use Rattle.tables.proofs.Facts.{learned_at, length-learned}
use Rattle.rules.specs.Force.{InForce, all_rules, rule, rules_in, all_clauses, row}

module _ (p : Meaning) (c : Conditions) where
  rules_told : rules_in p c ≡ rules_of p ++ conditions_of c
  rules_told = ap (λ (rs : List (List ℕ)). rs ++ conditions_of c) (contents_rules p)

  pub rules_are : length (rules_in p c) ≡ length (rules_of p) + length (conditions_of c)
  rules_are = ap length rules_told ∙ length-append (rules_of p) (conditions_of c)

  pub rule_pile : (r : ℕ) → r < length (rules_of p) → get_or (rules_in p c) r [] ≡ get_or (rules_of p) r []
  rule_pile r h = ap (λ (rs : List (List ℕ)). get_or rs r []) rules_told ∙ get_or_append_left (rules_of p) (conditions_of c) [] r h

  pub rule_condition : (r : ℕ) → length (rules_of p) ≤ r → get_or (rules_in p c) r [] ≡ get_or (conditions_of c) (r - length (rules_of p)) []
  rule_condition r h =
      ap (λ (rs : List (List ℕ)). get_or rs r []) rules_told
      ∙ get_or-append_right (rules_of p) (conditions_of c) (length (rules_of p)) r [] refl h

module _ (f : InForce) (l : Learned) where
  pub clauses_are : length (all_clauses f l) ≡ length (all_rules f) + length (rows_of l)
  clauses_are =
      length-append (map members (all_rules f)) (rules_learned (rows_of l))
      ∙ ap₂ (λ (a b : ℕ). a + b) (length-map (all_rules f) members) (length-learned (rows_of l))

  pub clause_rule : (i : ℕ) → i < length (all_rules f) → clause (all_clauses f l) i ≡ members (rule f i)
  unfolding clause
  clause_rule i h =
      let e = length-map (all_rules f) members in
      get_or-append (map members (all_rules f)) (rules_learned (rows_of l)) (λ _. false) i (rw e h) ∙ get_or-map members (all_rules f) i [] (λ _. false) h

  pub clause_row : (i : ℕ) → length (all_rules f) ≤ i → clause (all_clauses f l) i ≡ row l (i - length (all_rules f))
  unfolding clause
  clause_row i h =
      get_or-append_right (map members (all_rules f)) (rules_learned (rows_of l)) (length (all_rules f)) i (λ _. false) (length-map (all_rules f) members) h
      ∙ learned_at (rows_of l) (i - length (all_rules f))

-- a literal that is put into a set, as the set tells it
pub small_here : (k l : ℕ) → l < 128 → (eqb k l && ltb k 128) ≡ eqb k l
small_here k l h =
    ⊎_elim (λ (e : k ≡ l). rw (eq-eqb k l e) (lt-ltb k 128 (omega arith))) (λ (e : k ≡ l → ⊥). rw (ne_eqb k l e)) (cases_eq k l)

or_swap : (a b c : Bool) → (a || (b || c)) ≡ (b || (a || c))
or_swap true true c = refl
or_swap true false c = refl
or_swap false true c = refl
or_swap false false c = refl

members_last : (xs : List ℕ) (x k : ℕ) → members (xs ++ (x ∷ [])) k ≡ (eqb k x || members xs k)
unfolding members
members_last [] x k = ap (λ (b : Bool). b || false) (eqb_swap x k)
members_last (y ∷ xs) x k = ap (λ (b : Bool). eqb y k || b) (members_last xs x k) ∙ or_swap (eqb y k) (eqb k x) (members xs k)

-- one place more of a rule, as a set
pub members_more : (r : List ℕ) (j k : ℕ) → j < length r → members (take (j + 1) r) k ≡ (eqb k (get_or r j 255) || members (take j r) k)
members_more r j k h = ap (λ (x : List ℕ). members x k) (take_more r j 255 h) ∙ members_last (take j r) (get_or r j 255) k
