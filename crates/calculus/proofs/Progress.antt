-- While the search is not closed, its step is by the first rule that applies, and keeps the invariant; from the invariant,
-- the laws of the kind and the limits of the pile.
use Rattle.std.proofs.Common.{◌≡◌, ℕ, suc, ◌+◌, ◌*◌, ◌<◌, Bool, true, false, not, ◌↔◌, [], ◌∷◌, length, get_or, sym, refl, ap, ◌∙◌, subst, arith}
use mathlib.Core.Option.{Option, none, some}
use Rattle.std.proofs.lemmas.Bool.{both_ways, not-false, true≢false, lt-ltb, cond_both}
use Rattle.cases.specs.Meanings.{Sound, sound}
use Rattle.cases.specs.Literals.{Literals, complement}
use Rattle.cases.specs.Choices.{keeps_all, sets}
use Rattle.cases.specs.Limits.{Limited, most_options}
use Rattle.charges.specs.Charges.{price_of}
use Rattle.charges.specs.Kinds.{Kind, Laws}
use Rattle.calculus.specs.Scans.{place, any, first}
use Rattle.calculus.specs.Trails.{Trail, unset, opened, level, forced, decided, on, Entry, Reason, Levelled}
use Rattle.calculus.specs.States.{State, clauses, clause, in_force}
use Rattle.calculus.specs.Changes.{decision, choice_of, complements, resolved}
use Rattle.calculus.specs.Calculus.{Free, First, Forces, Propagate, propagate, Decide, decide, Improve, improve, ConflOpt, confl_opt, FalseUnder, ConflSat, confl_sat, Nonempty, Skip, skip, Resolve, resolve, Backtrack, backtrack, Rule, Moves}
use Rattle.calculus.specs.Priority.{Next}
use Rattle.calculus.specs.Steps.{closed, step, by_conflict, is_unit, is_false, extend, alive, extend_in, complete, best_not_above, compare_best, forward, can_backtrack, unwind, back, backward, empty_set}
use Rattle.calculus.proofs.Scans.{place_some, place_first, place_none, any_some, any_yes}
use Rattle.calculus.proofs.Literals.{complement_range}
use Rattle.calculus.proofs.Choices.{keeps_each, rule_by_kept, sets_choice}
use Rattle.calculus.proofs.Trails.{shorter, Distinct}
use Rattle.calculus.proofs.Invariant.{Inv, full_complement, length-clauses, clause_rule, Better, free_open, not_below_best}
use Rattle.calculus.proofs.Keeping.{keep_pushed, keep_improved, keep_confl_opt, keep_confl_sat, keep_skip, keep_resolve, keep_backtracked}
use Rattle.calculus.proofs.Learning.{Patient, patient_forced, patient_decided, patient_improved, patient_conflicted, patient_popped, patient_backtracked}
use Rattle.calculus.proofs.Tests.{unit_forces, forces_unit, lowest_unset, option_free, quiet, false_no, all_set, best_not_above_yes, false_yes, not_false_under, top_alone, asserts}
use Rattle.calculus.proofs.Priority.{Barred, bar_next, no_propagate, no_improve, no_confl_opt, bar_first, no_confl_sat, no_skip, bar_idle, no_backtrack, next_same}

-- a step of a search that is closed, and of one that is not
pub step_closed : (K : Kind) (m : Sound) (s : State K) → closed m s ≡ true → step K m s ≡ s
unfolding step
step_closed K m s h = rw (h, step)

pub step_open : (K : Kind) (m : Sound) (s : State K) → closed m s ≡ false → step K m s ≡ by_conflict K m s s.conflict
unfolding step
step_open K m s h = rw (h, step)

-- What a step makes of a state.
pub record Stepped (K : Kind) (m : Sound) (s t : State K) : Type 0 where
  pub next : Next K m s t
  pub inv : Inv K m t
  pub patient : Patient m t

decision_free : (K : Kind) (m : Sound) (n : ℕ) (t : Trail) (v : ℕ) → Free n t (2 * v) → Free n t (2 * v + 1) → Free n t (decision K m v)
unfolding decision
decision_free K m n t v on-free off_free =
    cond_both (not (K.not_above (price_of K m (2 * v + 1)) (price_of K m (2 * v)))) (2 * v) (2 * v + 1) (Free n t) (λ _. on-free) (λ _. off_free)

module _ (K : Kind) (laws : Laws K) (m : Sound) (limited : Limited (sound m)) (s : State K) (inv : Inv K m s) (patient : Patient m s) where
  -- Propagate or Decide
  extends : (o : Option ℕ) → place (is_unit m.options s.trail) (clauses m s) ≡ o → s.conflict ≡ none → any m.options (unset s.trail) ≡ true
      → place (is_false m.options s.trail) (clauses m s) ≡ none → Barred K m s 4 → Stepped K m s (extend K m s o)
  unfolding extend clause opened
  extends (some i) e c u f bar =
      let n = m.options in
      let t = s.trail in
      let C = clause (clauses m s) i in
      let w = place_some (is_unit n t) (clauses m s) (λ _. false) i e in
      let l = first (2 * n) (alive t C) in
      let here = unit_forces n t C w.1 in
      let one : First (λ D. (x : ℕ) × Forces n t D x) (clauses m s) i = record {
        in_list = w.0;
        holds = (l, here);
        not_before = λ j b h. both_ways (is_unit n t (clause (clauses m s) j)) (place_first (is_unit n t) (clauses m s) (λ _. false) i e j b) (forces_unit n t (clause (clauses m s) j) h.0 h.1).0;
      } in
      record {
        next = record { rule = Propagate; move = propagate i l c one here; first = bar };
        inv = keep_pushed K laws m limited s inv l (level t) (forced i) c here.is_free refl (w.0, here.in_rule, here.others_false);
        patient = patient_forced m s patient l (level t) i;
      }
  extends none e c u f bar =
      let n = m.options in
      let t = s.trail in
      let v = first n (unset t) in
      let low = lowest_unset n t u in
      let both = option_free n t v low.in_range low.is_unset in
      record {
        next = record { rule = Decide; move = decide v c low; first = bar_next K m s Propagate bar (no_propagate K m s e) };
        inv = keep_pushed K laws m limited s inv (decision K m v) (suc (level t)) decided c (decision_free K m n t v both.0 both.1) refl tt;
        patient =
            patient_decided m s patient (decision K m v) (suc (level t))
            (λ i l. quiet n t (clause (clauses m s) i) (place_none (is_false n t) (clauses m s) (λ _. false) f i l) (place_none (is_unit n t) (clauses m s) (λ _. false) e i l));
      }

  -- the trail is shorter than its places while an option is unset
  has_place : any m.options (unset s.trail) ≡ true → (o : Option ℕ) → extend_in K m s o ≡ extend K m s o
  unfolding extend_in
  has_place u o =
      let n = m.options in
      let w = any_some n (unset s.trail) u in
      let free = (option_free n s.trail w.0 w.1 w.2).0 in
      let less : length s.trail < most_options = omega (arith, shorter n s.trail (2 * w.0) inv.distinct free, limited.few_options) in
      rw (lt-ltb (length s.trail) most_options less)

  -- a trail that sets all options and makes no rule false keeps the rules in force
  full_keeps : ((l : ℕ) → Free m.options s.trail l → ⊥) → place (is_false m.options s.trail) (clauses m s) ≡ none
      → keeps_all (sets (choice_of m.options (on s.trail))) (in_force m s) ≡ true
  unfolding clause
  full_keeps full e =
      let n = m.options in
      let t = s.trail in
      let both = full_complement n t inv.distinct full in
      keeps_each (sets (choice_of n (on t))) (in_force m s)
      (λ i l.
      let w = false_no n t (clause (clauses m s) i) (place_none (is_false n t) (clauses m s) (λ _. false) e i (omega (arith, length-clauses m s))) in
      let true_on : on t w.0 ≡ true = not-false (on t w.0) (sym (both w.0 w.1) ∙ w.3) in
      rule_by_kept (sets (choice_of n (on t))) (get_or (in_force m s) i []) w.0 (subst (λ (C : Literals). C w.0 ≡ true) (clause_rule m s i l) w.2) (sets_choice n (on t) both w.0 w.1 ∙ true_on))

  completes : (b : Bool) → any m.options (unset s.trail) ≡ b → s.conflict ≡ none → place (is_false m.options s.trail) (clauses m s) ≡ none
      → Better K m s.best (on s.trail) → Barred K m s 3 → Stepped K m s (complete K m s b)
  unfolding complete
  completes true e c f better bar =
      rw (has_place e (place (is_unit m.options s.trail) (clauses m s)))
      (extends (place (is_unit m.options s.trail) (clauses m s)) refl c e f (bar_next K m s Improve bar (no_improve K m s e)))
  completes false e c f better bar =
      let full : (l : ℕ) → Free m.options s.trail l → ⊥ = λ l h. both_ways (any m.options (unset s.trail)) e (free_open m.options s.trail l h) in
      record {
        next = record { rule = Improve; move = improve c (all_set m.options s.trail e); first = bar };
        inv = keep_improved K laws m limited s inv c full (full_keeps full f) better;
        patient = patient_improved m s patient;
      }

  compares : (b : Bool) → best_not_above K m s.best (on s.trail) ≡ b → s.conflict ≡ none → place (is_false m.options s.trail) (clauses m s) ≡ none → Barred K m s 2
      → Stepped K m s (compare_best K m s b)
  unfolding compare_best
  compares true e c f bar =
      let w = best_not_above_yes K m s.best (on s.trail) e in
      record {
        next = record { rule = ConflOpt; move = confl_opt w.0 c w.1 w.2; first = bar };
        inv = keep_confl_opt K laws m limited s inv w.0 c w.1 w.2;
        patient = patient_conflicted m s patient (complements s.trail);
      }
  compares false e c f bar =
      completes (any m.options (unset s.trail)) refl c f (not_below_best K m s.best (on s.trail) e) (bar_next K m s ConflOpt bar (no_confl_opt K m s e))

  forwards : (o : Option ℕ) → place (is_false m.options s.trail) (clauses m s) ≡ o → s.conflict ≡ none → Stepped K m s (forward K m s o)
  unfolding forward clause
  forwards (some i) e c =
      let n = m.options in
      let t = s.trail in
      let w = place_some (is_false n t) (clauses m s) (λ _. false) i e in
      let here = false_yes n t (clause (clauses m s) i) w.1 in
      let one : First (FalseUnder n t) (clauses m s) i = record {
        in_list = w.0;
        holds = here;
        not_before = λ j b h. not_false_under n t (clause (clauses m s) j) (place_first (is_false n t) (clauses m s) (λ _. false) i e j b) h;
      } in
      record {
        next = record { rule = ConflSat; move = confl_sat i c one; first = bar_first K m s };
        inv = keep_confl_sat K laws m limited s inv i c w.0 here;
        patient = patient_conflicted m s patient (clause (clauses m s) i);
      }
  forwards none e c = compares (best_not_above K m s.best (on s.trail)) refl c e (bar_next K m s ConflSat (bar_first K m s) (no_confl_sat K m s e))

  -- Skip or Resolve
  unwinds : (D : Literals) (e : Entry) (t : Trail) (b : Bool) (r : Reason) → s.conflict ≡ some D → Nonempty m.options D → s.trail ≡ e ∷ t → D (complement e.literal) ≡ b → e.reason ≡ r
      → can_backtrack m.options s.trail D ≡ false → Barred K m s 7 → Stepped K m s (unwind m s D e t b r)
  unfolding unwind
  unwinds D e t false r c u q h w f bar =
      record {
        next = record { rule = Skip; move = skip D e t c u q h; first = bar };
        inv = keep_skip K laws m limited s inv D e t c q h;
        patient = patient_popped K m s inv D e t q patient;
      }
  unwinds D e t true (forced i) c u q h w f bar =
      record {
        next = record { rule = Resolve; move = resolve D e t i c q h w; first = bar_next K m s Skip bar (no_skip K m s D e t c q h) };
        inv = keep_resolve K laws m limited s inv D e t i c q w;
        patient = patient_popped K m s inv (resolved D e.literal (clause (clauses m s) i)) e t q patient;
      }
  unwinds D e t true decided c u q h w f bar =
      let d : Distinct m.options (e ∷ t) = subst (Distinct m.options) q inv.distinct in
      let v : Levelled (e ∷ t) = subst (λ (z : Trail). Levelled z) q inv.levelled in
      absurd
      (both_ways (can_backtrack m.options (e ∷ t) D) (subst (λ (z : Trail). can_backtrack m.options z D ≡ false) q f)
      (top_alone m.options e t D v d.0.in_range w h))

  backs : (D : Literals) (t : Trail) → s.conflict ≡ some D → s.trail ≡ t → Nonempty m.options D → can_backtrack m.options s.trail D ≡ false → Barred K m s 7
      → Stepped K m s (back m s D t)
  unfolding back on
  backs D [] c q u f bar =
      let h = subst (λ (z : Trail). FalseUnder m.options z D) q (inv.conflict_false D c) u.0 u.1 u.2 in
      absurd (true≢false (sym h))
  backs D (e ∷ t) c q u f bar = unwinds D e t (D (complement e.literal)) e.reason c u q refl refl f bar

  backwards : (D : Literals) (b : Bool) → can_backtrack m.options s.trail D ≡ b → s.conflict ≡ some D → Nonempty m.options D → Stepped K m s (backward m s D b)
  unfolding backward
  backwards D true e c u =
      let a = asserts m.options s.trail D e in
      record {
        next = record { rule = Backtrack; move = backtrack D _ _ c a; first = bar_idle K m s D c };
        inv = keep_backtracked K laws m limited s inv D _ _ c a;
        patient = patient_backtracked K m s inv D _ _ c a patient;
      }
  backwards D false e c u = backs D s.trail c refl u e (bar_next K m s Backtrack (bar_idle K m s D c) (no_backtrack K m s D c e))

  by_conflicts : (o : Option Literals) → s.conflict ≡ o → closed m s ≡ false → Stepped K m s (by_conflict K m s o)
  unfolding by_conflict closed empty_set
  by_conflicts none c f = forwards (place (is_false m.options s.trail) (clauses m s)) refl c
  by_conflicts (some D) c f =
      let z : empty_set m.options (some D) ≡ false = subst (λ (o : Option Literals). empty_set m.options o ≡ false) c f in
      let w = any_some (2 * m.options) D (not-false (any (2 * m.options) D) z) in
      backwards D (can_backtrack m.options s.trail D) refl c (w.0, w.1, w.2)

  pub stepped : closed m s ≡ false → Stepped K m s (step K m s)
  stepped h = rw (step_open K m s h) (by_conflicts s.conflict refl h)

  -- a rule that applies finds the search not closed
  set_open : (D : Literals) (x : ℕ) → s.conflict ≡ some D → x < 2 * m.options → D x ≡ true → closed m s ≡ false
  unfolding closed empty_set
  set_open D x c l h = ap (empty_set m.options) c ∙ ap not (any_yes (2 * m.options) D x l h)

  none_open : s.conflict ≡ none → closed m s ≡ false
  unfolding closed empty_set
  none_open c = ap (empty_set m.options) c

  moves_open : (q : Rule) (u : State K) → Moves K m s q u → closed m s ≡ false
  moves_open ConflSat u (confl_sat i c w) = none_open c
  moves_open ConflOpt u (confl_opt b c q h) = none_open c
  moves_open Improve u (improve c f) = none_open c
  moves_open Propagate u (propagate i x c w h) = none_open c
  moves_open Decide u (decide v c w) = none_open c
  moves_open Backtrack u (backtrack D L i c a) = set_open D L c a.in_range a.in_set
  moves_open Skip u (skip D e t c w q h) = set_open D w.0 c w.1 w.2
  moves_open Resolve u (resolve D e t i c q h w) =
      let d : Distinct m.options (e ∷ t) = subst (Distinct m.options) q inv.distinct in
      set_open D (complement e.literal) c (complement_range m.options e.literal d.0.in_range) h

  -- The next state is what the step makes.
  pub next_exactly : (t : State K) → Next K m s t ↔ ((closed m s ≡ false) × (t ≡ step K m s))
  next_exactly t = (
    λ n. let h = moves_open n.rule t n.move in (h, next_same K m s t (step K m s) n (stepped h).next),
    λ w. subst (λ (z : State K). Next K m s z) (sym w.1) (stepped w.0).next,
  )
