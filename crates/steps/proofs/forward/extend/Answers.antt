use Rattle.std.proofs.Common.{◌≡◌, ℕ, ◌+◌, ◌*◌, ◌<◌, ◌≤◌, Bool, true, false, cond, List, length, get_or, sym, ap, ◌∙◌, subst, ⊎_elim}
use mathlib.Core.Option as core
use Rattle.std.proofs.lemmas.Bool.{cases_lt, cond_both}
use Rattle.cases.specs.Literals.{Literals}
use Rattle.cases.specs.Meanings.{Sound}
use Rattle.charges.specs.Kinds.{Kind}
use Rattle.charges.specs.Generic.{kind_of}
use Rattle.charges.specs.Charges.{contents}
use Rattle.calculus.specs.Scans.{place, first}
use Rattle.calculus.specs.Trails.{Trail, opened}
use Rattle.calculus.specs.States.{clauses, clause, in_force}
use Rattle.calculus.specs.Changes.{pushed, decision}
use Rattle.calculus.specs.Calculus.{Free}
use Rattle.calculus.specs.Steps.{is_unit, alive}
use Rattle.calculus.proofs.Scans.{place_some}
use Rattle.calculus.proofs.Tests.{option_free}
use Rattle.literals.specs.Members.{member}
use Rattle.trails.specs.declared.entry.Reason.TheVariants.{Decided, Forced}
use Rattle.trails.specs.Trails.{listed}
use Rattle.rules.specs.Force.{InForce, all_clauses}
use Rattle.rules.specs.Scans.{forces}
use Rattle.steps.specs.Shapes.{shape, pushing, Right}
use Rattle.steps.specs.States.{state, working}
use Rattle.steps.proofs.Staged.{extend_full, extend_unit, extend_decide}
use Rattle.steps.proofs.Narrowed.{few_literals, forces_unit, forced_literal, lowest_first}
use Rattle.steps.proofs.Places.{free_place, full_place}
use Rattle.steps.proofs.forward.extend.Goals as goal

-- a literal that is decided is free
decision_free : (K : Kind) (m : Sound) (t : Trail) (v : ℕ) → Free m.options t (2 * v) × Free m.options t (2 * v + 1) → Free m.options t (decision K m v)
unfolding decision
decision_free K m t v w =
    cond_both _ (2 * v) (2 * v + 1) (λ (x : ℕ). Free m.options t x) (λ _. w.0) (λ _. w.1)

passes : (cs : List Literals) (i : ℕ) (f : Literals → Bool) → f (get_or cs i (λ _. false)) ≡ true → f (clause cs i) ≡ true
unfolding clause
passes cs i f h = h

pub returns-in-Some : goal.returns-in-Some
unfolding pushed opened clauses in_force
returns-in-Some g c =
    let K = kind_of g.K.Charge in
    let f = c.args.force.now in
    let told : contents (g.P.Case.meaning c.force.inside.pile.now) ≡ f.pile = ap (λ (x : InForce). x.pile) c.force.view_is in
    let m = f.pile in
    let n = m.options in
    let tb = c.args.work.now in
    let t = listed tb.trail in
    let cs = all_clauses f tb.learned in
    let few = few_literals _ f.pile told (g.met.P.Case.limits c.force.inside.pile.now) in
    let L = member c.args.live.now in
    let R = member c.literals-set.result in
    let w = c.in-Some.ensures in
    let i = c.in-Some.i in
    let l = c.in-Some.l in
    let same = forces_unit n t L few c.requires.live R c.literals-set.ensures in
    let unit : place (is_unit n t) cs ≡ core.some i = ap (λ (f : Literals → Bool). place f cs) (sym same) ∙ w.0 in
    let rule = place_some (forces L R) cs (λ _. false) i w.0 in
    let lit = forced_literal n t L few c.requires.live R c.literals-set.ensures (clause cs i) (passes cs i (forces L R) rule.1) in
    let which : l ≡ first (2 * n) (alive t (clause cs i)) = w.1 ∙ lit.0 in
    let free : Free n t l = subst (Free n t) (sym which) lit.1 in
    record {
      leaves = λ b.
          let s = working K f b tb in
          ⊎_elim
          (λ (h : length t < 56).
          ap (state K n f.conditions b) (c.push.ensures.leaves ∙ ap (λ (x : Bool). cond x (pushing l (Forced i) (shape tb)) (shape tb)) (free_place n t l free few h))
          ∙ sym (extend_unit K m s (place (is_unit n t) cs) i l h unit which))
          (λ (h : 56 ≤ length t).
          ap (state K n f.conditions b) (c.push.ensures.leaves ∙ ap (λ (x : Bool). cond x (pushing l (Forced i) (shape tb)) (shape tb)) (full_place t l h))
          ∙ sym (extend_full K m s (place (is_unit n t) cs) h))
          (cases_lt (length t) 56);
      notes = subst (λ (x : ℕ). Right x tb → Right x c.push.new.self) c.in_force-base.ensures.answers c.push.ensures.notes;
    }

pub returns-in-None : goal.returns-in-None
unfolding pushed opened clauses in_force
returns-in-None g c =
    let K = kind_of g.K.Charge in
    let f = c.args.force.now in
    let told : contents (g.P.Case.meaning c.force.inside.pile.now) ≡ f.pile = ap (λ (x : InForce). x.pile) c.force.view_is in
    let m = f.pile in
    let n = m.options in
    let tb = c.args.work.now in
    let t = listed tb.trail in
    let cs = all_clauses f tb.learned in
    let few = few_literals _ f.pile told (g.met.P.Case.limits c.force.inside.pile.now) in
    let L = member c.args.live.now in
    let R = member c.literals-set.result in
    let v = c.args.v in
    let low = c.requires.lowest in
    let l = c.decision.result in
    let same = forces_unit n t L few c.requires.live R c.literals-set.ensures in
    let none : place (is_unit n t) cs ≡ core.none = ap (λ (f : Literals → Bool). place f cs) (sym same) ∙ c.in-None.ensures in
    let decided : l ≡ decision K m v = rw (← told) c.decision.ensures in
    let free : Free n t l = subst (Free n t) (sym decided) (decision_free K m t v (option_free n t v low.in_range low.is_unset)) in
    record {
      leaves = λ b.
          let s = working K f b tb in
          ⊎_elim
          (λ (h : length t < 56).
          ap (state K n f.conditions b) (c.push-in-None.ensures.leaves ∙ ap (λ (x : Bool). cond x (pushing l Decided (shape tb)) (shape tb)) (free_place n t l free few h))
          ∙ sym (extend_decide K m s (place (is_unit n t) cs) v l h none (lowest_first n t v low).0 decided))
          (λ (h : 56 ≤ length t).
          ap (state K n f.conditions b) (c.push-in-None.ensures.leaves ∙ ap (λ (x : Bool). cond x (pushing l Decided (shape tb)) (shape tb)) (full_place t l h))
          ∙ sym (extend_full K m s (place (is_unit n t) cs) h))
          (cases_lt (length t) 56);
      notes = subst (λ (x : ℕ). Right x tb → Right x c.push-in-None.new.self) c.in_force-base.ensures.answers c.push-in-None.ensures.notes;
    }
