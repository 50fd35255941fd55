-- The step of the definition, by the answers to its questions in their order.
use Rattle.std.proofs.Common.{◌≡◌, ℕ, suc, ◌*◌, ◌<◌, ◌≤◌, Bool, true, false, [], ◌∷◌, length, sym, refl, ap, ◌∙◌, ap₂}
use mathlib.Core.Option as core
use Rattle.std.proofs.lemmas.Bool.{lt-ltb, le-ltb}
use Rattle.cases.specs.Literals.{Literals, complement}
use Rattle.cases.specs.Meanings.{Sound}
use Rattle.charges.specs.Kinds.{Kind}
use Rattle.calculus.specs.Scans.{any, first, greatest, place}
use Rattle.calculus.specs.Trails.{Reason, decided, forced, Entry, Trail, on, unset, level, level_of}
use Rattle.calculus.specs.States.{State, clauses, clause}
use Rattle.calculus.specs.Changes.{conflicted, complements, improved, pushed, decision, popped, resolved, backtracked}
use Rattle.calculus.specs.Steps as steps

module _ (K : Kind) (m : Sound) (s : State K) where
  abbrev no_false : Type 0
  no_false = core.none ≡ place (steps.is_false m.options s.trail) (clauses m s)

  abbrev not_above : Bool → Type 0
  not_above b = steps.best_not_above K m s.best (on s.trail) ≡ b

  pub forward_false : (i : ℕ) → core.some i ≡ place (steps.is_false m.options s.trail) (clauses m s)
      → steps.by_conflict K m s core.none ≡ conflicted s (clause (clauses m s) i)
  unfolding steps.by_conflict steps.forward
  forward_false i e = ap (steps.forward K m s) (sym e)

  pub forward_best : no_false → not_above true → steps.by_conflict K m s core.none ≡ conflicted s (complements s.trail)
  unfolding steps.by_conflict steps.forward steps.compare_best
  forward_best e h = ap (steps.forward K m s) (sym e) ∙ ap (steps.compare_best K m s) h

  pub forward_improve : no_false → not_above false → any m.options (unset s.trail) ≡ false → steps.by_conflict K m s core.none ≡ improved m s
  unfolding steps.by_conflict steps.forward steps.compare_best steps.complete
  forward_improve e h u = ap (steps.forward K m s) (sym e) ∙ ap (steps.compare_best K m s) h ∙ ap (steps.complete K m s) u

  pub forward_extend : no_false → not_above false → any m.options (unset s.trail) ≡ true
      → steps.by_conflict K m s core.none ≡ steps.extend_in K m s (place (steps.is_unit m.options s.trail) (clauses m s))
  unfolding steps.by_conflict steps.forward steps.compare_best steps.complete
  forward_extend e h u = ap (steps.forward K m s) (sym e) ∙ ap (steps.compare_best K m s) h ∙ ap (steps.complete K m s) u

  pub extend_full : (o : core.Option ℕ) → 56 ≤ length s.trail → steps.extend_in K m s o ≡ s
  unfolding steps.extend_in
  extend_full o h = rw (le-ltb (length s.trail) 56 h)

  pub extend_unit : (o : core.Option ℕ) (i l : ℕ) → length s.trail < 56 → o ≡ core.some i → l ≡ first (2 * m.options) (steps.alive s.trail (clause (clauses m s) i))
      → steps.extend_in K m s o ≡ pushed s l (level s.trail) (forced i)
  unfolding steps.extend_in steps.extend
  extend_unit o i l h e q = rw (lt-ltb (length s.trail) 56 h) (ap (steps.extend K m s) e ∙ ap (λ (x : ℕ). pushed s x (level s.trail) (forced i)) (sym q))

  pub extend_decide : (o : core.Option ℕ) (v l : ℕ) → length s.trail < 56 → o ≡ core.none → v ≡ first m.options (unset s.trail) → l ≡ decision K m v
      → steps.extend_in K m s o ≡ pushed s l (suc (level s.trail)) decided
  unfolding steps.extend_in steps.extend
  extend_decide o v l h e q w =
      rw (lt-ltb (length s.trail) 56 h)
      (ap (steps.extend K m s) e ∙ ap (λ (x : ℕ). pushed s (decision K m x) (suc (level s.trail)) decided) (sym q) ∙ ap (λ (x : ℕ). pushed s x (suc (level s.trail)) decided) (sym w))

module _ {K : Kind} (m : Sound) (s : State K) (D : Literals) where
  pub back_none : (t : Trail) → t ≡ [] → steps.back m s D t ≡ s
  unfolding steps.back
  back_none t e = ap (steps.back m s D) e

  module _ (T : Trail) (e : Entry) (t : Trail) (q : T ≡ e ∷ t) where
    pub back_skip : D (complement e.literal) ≡ false → steps.back m s D T ≡ popped s t D
    unfolding steps.back steps.unwind
    back_skip h = ap (steps.back m s D) q ∙ ap (λ (b : Bool). steps.unwind m s D e t b e.reason) h

    pub back_resolve : (i : ℕ) → D (complement e.literal) ≡ true → e.reason ≡ forced i → steps.back m s D T ≡ popped s t (resolved D e.literal (clause (clauses m s) i))
    unfolding steps.back steps.unwind
    back_resolve i h w = ap (steps.back m s D) q ∙ ap₂ (λ (b : Bool) (r : Reason). steps.unwind m s D e t b r) h w

    pub back_stay : D (complement e.literal) ≡ true → e.reason ≡ decided → steps.back m s D T ≡ s
    unfolding steps.back steps.unwind
    back_stay h w = ap (steps.back m s D) q ∙ ap₂ (λ (b : Bool) (r : Reason). steps.unwind m s D e t b r) h w

  pub backward_no : (b : Bool) → b ≡ false → steps.backward m s D b ≡ steps.back m s D s.trail
  unfolding steps.backward
  backward_no b e = ap (steps.backward m s D) e

  pub backward_yes : (b : Bool) (L i : ℕ) → b ≡ true → L ≡ first (2 * m.options) (steps.at_level s.trail D (level s.trail))
      → i ≡ greatest (2 * m.options) (steps.others D L) (λ x. level_of s.trail (complement x)) → steps.backward m s D b ≡ backtracked m s D L i
  unfolding steps.backward
  backward_yes b L i e l k =
      ap (steps.backward m s D) e
      ∙ ap (λ (x : ℕ). backtracked m s D x (greatest (2 * m.options) (steps.others D x) (λ y. level_of s.trail (complement y)))) (sym l) ∙ ap (backtracked m s D L) (sym k)

-- a step, by whether the search is closed
module _ (K : Kind) (m : Sound) (s : State K) where
  pub step_closed : steps.closed m s ≡ true → steps.step K m s ≡ s
  unfolding steps.step
  step_closed h = rw (h, steps.step)

  pub step_open : steps.closed m s ≡ false → steps.step K m s ≡ steps.by_conflict K m s s.conflict
  unfolding steps.step
  step_open h = rw (h, steps.step)

  pub by_none : (o : core.Option Literals) → o ≡ core.none → steps.by_conflict K m s o ≡ steps.by_conflict K m s core.none
  by_none o e = ap (steps.by_conflict K m s) e

  pub by_some : (D : Literals) → steps.by_conflict K m s (core.some D) ≡ steps.backward m s D (steps.can_backtrack m.options s.trail D)
  unfolding steps.by_conflict
  by_some D = refl
