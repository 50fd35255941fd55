-- The first rule that applies, from the answers to the questions of a step: which rules do not apply; and that each rule
-- makes one state only, so that there is one next state.
use Rattle.std.proofs.Common.{◌≡◌, ℕ, suc, ◌<◌, ◌≤◌, true, false, List, [], ◌∷◌, get_or, sym, refl, ap, ◌∙◌, subst, ⊎_elim, arith}
use mathlib.Core.Option.{none, some}
use Rattle.std.proofs.lemmas.Bool.{both_ways, cases_eq, cases_lt}
use Rattle.cases.specs.Meanings.{Sound}
use Rattle.cases.specs.Literals.{Literals, complement}
use Rattle.charges.specs.Charges.{charge}
use Rattle.charges.specs.Kinds.{Kind}
use Rattle.calculus.specs.Scans.{place, any}
use Rattle.calculus.specs.Trails.{on, unset, Entry, Trail, level, forced, decided}
use Rattle.calculus.specs.States.{State, clauses, clause}
use Rattle.calculus.specs.Changes.{conflicted, pushed, decision, backtracked, popped, resolved}
use Rattle.calculus.specs.Calculus.{Rule, ConflSat, ConflOpt, Improve, Propagate, Decide, Backtrack, Skip, Resolve, order, Moves, confl_sat, confl_opt, improve, propagate, decide, backtrack, Asserts, skip, First, Forces, LowestUnset, FalseUnder, resolve}
use Rattle.calculus.specs.Priority.{Applies, Next}
use Rattle.calculus.specs.Steps.{is_false, best_not_above, is_unit, can_backtrack}
use Rattle.calculus.proofs.Scans.{place_none, any_some, none_some, some_same}
use Rattle.calculus.proofs.Invariant.{not_below_best}
use Rattle.calculus.proofs.Tests.{not_false_under, forces_unit, asserts_backtracks}

rule_at : ℕ → Rule
rule_at k = get_or (ConflSat ∷ ConflSat ∷ ConflOpt ∷ Improve ∷ Propagate ∷ Decide ∷ Backtrack ∷ Skip ∷ Resolve ∷ []) k ConflSat

rule_back : (q : Rule) → rule_at (order q) ≡ q
unfolding rule_at
rule_back ConflSat = refl
rule_back ConflOpt = refl
rule_back Improve = refl
rule_back Propagate = refl
rule_back Decide = refl
rule_back Backtrack = refl
rule_back Skip = refl
rule_back Resolve = refl

pub same_order : (q r : Rule) → order q ≡ order r → q ≡ r
same_order q r e = sym (rule_back q) ∙ ap rule_at e ∙ rule_back r

order_pos : (q : Rule) → 1 ≤ order q
order_pos ConflSat = omega arith
order_pos ConflOpt = omega arith
order_pos Improve = omega arith
order_pos Propagate = omega arith
order_pos Decide = omega arith
order_pos Backtrack = omega arith
order_pos Skip = omega arith
order_pos Resolve = omega arith

head_same : {A : Type 0} {x y : A} {xs ys : List A} → x ∷ xs ≡ y ∷ ys → x ≡ y
head_same e = cc

tail_same : {A : Type 0} {x y : A} {xs ys : List A} → x ∷ xs ≡ y ∷ ys → xs ≡ ys
tail_same e = cc

module _ (K : Kind) (m : Sound) (s : State K) where
  -- no rule before the place k in the order applies
  abbrev pub Barred : ℕ → Type 0
  Barred k = (q : Rule) → Applies K m s q → k ≤ order q

  pub bar_first : Barred 1
  bar_first q w = order_pos q

  pub bar_next : (r : Rule) → Barred (order r) → ((u : State K) → Moves K m s r u → ⊥) → Barred (suc (order r))
  bar_next r b never q w =
      ⊎_elim (λ (e : order q ≡ order r). absurd (never w.0 (subst (λ (z : Rule). Moves K m s z w.0) (same_order q r e) w.1)))
      (λ (ne : order q ≡ order r → ⊥). omega (arith, b q w))
      (cases_eq (order q) (order r))

  pub no_confl_sat : place (is_false m.options s.trail) (clauses m s) ≡ none → (u : State K) → Moves K m s ConflSat u → ⊥
  unfolding clause
  no_confl_sat f u (confl_sat i c w) =
      not_false_under m.options s.trail (clause (clauses m s) i) (place_none (is_false m.options s.trail) (clauses m s) (λ _. false) f i w.in_list) w.holds

  pub no_confl_opt : best_not_above K m s.best (on s.trail) ≡ false → (u : State K) → Moves K m s ConflOpt u → ⊥
  no_confl_opt f u (confl_opt b c q h) = both_ways (K.not_above b.charge (charge K m (on s.trail))) (not_below_best K m s.best (on s.trail) f b q) h

  pub no_improve : any m.options (unset s.trail) ≡ true → (u : State K) → Moves K m s Improve u → ⊥
  no_improve f u (improve c all) =
      let w = any_some m.options (unset s.trail) f in
      both_ways (unset s.trail w.0) (all w.0 w.1) w.2

  pub no_propagate : place (is_unit m.options s.trail) (clauses m s) ≡ none → (u : State K) → Moves K m s Propagate u → ⊥
  unfolding clause
  no_propagate f u (propagate i l c w h) =
      both_ways (is_unit m.options s.trail (clause (clauses m s) i)) (place_none (is_unit m.options s.trail) (clauses m s) (λ _. false) f i w.in_list)
      (forces_unit m.options s.trail (clause (clauses m s) i) l h).0

  idle_moves : (q : Rule) (u : State K) → Moves K m s q u → order q < 6 → s.conflict ≡ none
  idle_moves ConflSat u (confl_sat i c w) l = c
  idle_moves ConflOpt u (confl_opt b c q h) l = c
  idle_moves Improve u (improve c f) l = c
  idle_moves Propagate u (propagate i x c w h) l = c
  idle_moves Decide u (decide v c w) l = c
  idle_moves Backtrack u w l = absurd (omega arith)
  idle_moves Skip u w l = absurd (omega arith)
  idle_moves Resolve u w l = absurd (omega arith)

  -- with a conflict set none of the first five applies
  pub bar_idle : (D : Literals) → s.conflict ≡ some D → Barred 6
  bar_idle D c q w = ⊎_elim (λ (l : order q < 6). absurd (none_some (sym (idle_moves q w.0 w.1 l) ∙ c))) (λ (l : 6 ≤ order q). l) (cases_lt (order q) 6)

  pub no_backtrack : (D : Literals) → s.conflict ≡ some D → can_backtrack m.options s.trail D ≡ false → (u : State K) → Moves K m s Backtrack u → ⊥
  no_backtrack D d f u (backtrack E L i c a) =
      both_ways (can_backtrack m.options s.trail D) f
      (asserts_backtracks m.options s.trail D L i (subst (λ (X : Literals). Asserts m.options s.trail X L i) (some_same (sym c ∙ d)) a))

  pub no_skip : (D : Literals) (e : Entry) (t : Trail) → s.conflict ≡ some D → s.trail ≡ e ∷ t → D (complement e.literal) ≡ true → (u : State K) → Moves K m s Skip u → ⊥
  no_skip D e t d q h u (skip E f v c x y k) =
      let same : E ≡ D = some_same (sym c ∙ d) in
      let top : f ≡ e = head_same (sym y ∙ q) in
      both_ways (D (complement e.literal)) (subst (λ (X : Literals). X (complement e.literal) ≡ false) same (subst (λ (z : Entry). E (complement z.literal) ≡ false) top k)) h

-- what each rule finds is found once
first_same : (P : Literals → Type 0) (cs : List Literals) (i j : ℕ) → First P cs i → First P cs j → i ≡ j
first_same P cs i j a b =
    ⊎_elim (λ (l : i < j). absurd (b.not_before i l a.holds))
    (λ (l : j ≤ i). ⊎_elim (λ (k : j < i). absurd (a.not_before j k b.holds)) (λ (k : i ≤ j). omega arith) (cases_lt j i))
    (cases_lt i j)

forces_same : (n : ℕ) (t : Trail) (C : Literals) (l k : ℕ) → Forces n t C l → Forces n t C k → l ≡ k
forces_same n t C l k a b =
    ⊎_elim (λ (e : l ≡ k). e)
    (λ (e : l ≡ k → ⊥). absurd (both_ways (on t (complement k)) b.is_free.not_false (a.others_false k b.is_free.in_range b.in_rule (λ z. e (sym z)))))
    (cases_eq l k)

lowest_same : (n : ℕ) (t : Trail) (v w : ℕ) → LowestUnset n t v → LowestUnset n t w → v ≡ w
lowest_same n t v w a b =
    ⊎_elim (λ (l : v < w). absurd (both_ways (unset t v) (b.lower_set v l) a.is_unset))
    (λ (l : w ≤ v). ⊎_elim (λ (k : w < v). absurd (both_ways (unset t w) (a.lower_set w k) b.is_unset)) (λ (k : v ≤ w). omega arith) (cases_lt w v))
    (cases_lt v w)

module _ (n : ℕ) (t : Trail) (D : Literals) where
  asserts_one : (L M i j : ℕ) → Asserts n t D L i → Asserts n t D M j → L ≡ M
  asserts_one L M i j a b = b.alone L a.in_range a.in_set a.at_top

  asserts_not_above : (L M i j : ℕ) → Asserts n t D L i → Asserts n t D M j → i ≤ j
  asserts_not_above L M i j a b =
      ⊎_elim (λ (z : i ≡ 0). omega arith) (λ w. omega (arith, w.4, b.others w.0 w.1 w.2 (λ z. w.3 (z ∙ sym (asserts_one L M i j a b))))) a.reached

module _ (K : Kind) (m : Sound) (s : State K) where
  pub moves_same : (q : Rule) (t u : State K) → Moves K m s q t → Moves K m s q u → t ≡ u
  moves_same ConflSat t u (confl_sat i c w) (confl_sat j d v) =
      ap (λ (k : ℕ). conflicted s (clause (clauses m s) k)) (first_same (FalseUnder m.options s.trail) (clauses m s) i j w v)
  moves_same ConflOpt t u (confl_opt b c q h) (confl_opt a d r k) = refl
  moves_same Improve t u (improve c f) (improve d g) = refl
  moves_same Propagate t u (propagate i l c w f) (propagate j k d v g) =
      let e : i ≡ j = first_same (λ C. (x : ℕ) × Forces m.options s.trail C x) (clauses m s) i j w v in
      let o : l ≡ k = forces_same m.options s.trail (clause (clauses m s) j) l k (subst (λ (z : ℕ). Forces m.options s.trail (clause (clauses m s) z) l) e f) g in
      ap (λ (z : ℕ). pushed s z (level s.trail) (forced i)) o ∙ ap (λ (z : ℕ). pushed s k (level s.trail) (forced z)) e
  moves_same Decide t u (decide v c a) (decide w d b) =
      ap (λ (z : ℕ). pushed s (decision K m z) (suc (level s.trail)) decided) (lowest_same m.options s.trail v w a b)
  moves_same Backtrack t u (backtrack D L i c a) (backtrack E M j d b) =
      let n = m.options in
      let e : D ≡ E = some_same (sym c ∙ d) in
      let a2 : Asserts n s.trail E L i = subst (λ (X : Literals). Asserts n s.trail X L i) e a in
      let o = asserts_one n s.trail E L M i j a2 b in
      let r : i ≡ j = omega (arith, asserts_not_above n s.trail E L M i j a2 b, asserts_not_above n s.trail E M L j i b a2) in
      ap (λ (X : Literals). backtracked m s X L i) e ∙ ap (λ (z : ℕ). backtracked m s E z i) o ∙ ap (λ (z : ℕ). backtracked m s E M z) r
  moves_same Skip t u (skip D e v c x q h) (skip E f w d y r k) =
      ap (λ (z : Trail). popped s z D) (tail_same (sym q ∙ r)) ∙ ap (λ (X : Literals). popped s w X) (some_same (sym c ∙ d))
  moves_same Resolve t u (resolve D e v i c q h x) (resolve E f w j d r k y) =
      let same : D ≡ E = some_same (sym c ∙ d) in
      let top : e ≡ f = head_same (sym q ∙ r) in
      let why : i ≡ j = forced_same (sym x ∙ ap (λ (z : Entry). z.reason) top ∙ y) in
      ap (λ (z : Trail). popped s z (resolved D e.literal (clause (clauses m s) i))) (tail_same (sym q ∙ r))
      ∙ ap (λ (X : Literals). popped s w (resolved X e.literal (clause (clauses m s) i))) same
      ∙ ap (λ (z : Entry). popped s w (resolved E z.literal (clause (clauses m s) i))) top
      ∙ ap (λ (z : ℕ). popped s w (resolved E f.literal (clause (clauses m s) z))) why
    where
      forced_same : {i j : ℕ} → forced i ≡ forced j → i ≡ j
      forced_same e = cc

  -- There is one next state.
  pub next_same : (t u : State K) → Next K m s t → Next K m s u → t ≡ u
  next_same t u a b =
      let e : a.rule ≡ b.rule = same_order a.rule b.rule (omega (arith, a.first b.rule (u, b.move), b.first a.rule (t, a.move))) in
      moves_same b.rule t u (subst (λ (q : Rule). Moves K m s q t) e a.move) b.move
