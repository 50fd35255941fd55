use Rattle.std.proofs.Common.{◌≡◌, ◌/◌, Bool, true, false, Some, sym, ap, ◌∙◌, ap₂}
use mathlib.Core.Path.{fun_ext}
use mathlib.Core.Option as core
use Rattle.cases.specs.Literals.{Literals}
use Rattle.charges.specs.Generic.{kind_of}
use Rattle.charges.specs.Charges.{contents, charge}
use Rattle.calculus.specs.Scans.{any, place}
use Rattle.calculus.specs.Trails.{on, unset}
use Rattle.calculus.specs.States.{clauses, in_force}
use Rattle.calculus.specs.Changes.{conflicted, complements, improved, best_of}
use Rattle.calculus.specs.Calculus.{LowestUnset}
use Rattle.calculus.specs.Steps.{is_false, best_not_above}
use Rattle.literals.specs.Members.{member}
use Rattle.trails.specs.Trails.{listed}
use Rattle.rules.specs.Force.{InForce, all_clauses}
use Rattle.steps.specs.Shapes.{Live, Shape, shape, conflicting, improving}
use Rattle.steps.specs.States.{state, working}
use Rattle.steps.proofs.Staged.{forward_false, forward_best, forward_improve, forward_extend}
use Rattle.steps.proofs.Narrowed.{few_literals, misses_false, lowest_unset, none_unset, lowest_first}
use Rattle.steps.proofs.forward.forward.Goals as goal

pub returns-in-Some : goal.returns-in-Some
unfolding conflicted clauses in_force
returns-in-Some g c =
    let K = kind_of g.K.Charge in
    let f = c.args.force.now in
    let told : contents (g.P.Case.meaning c.force.inside.pile.now) ≡ f.pile = ap (λ (x : InForce). x.pile) c.force.view_is in
    let m = f.pile in
    let n = m.options in
    let tb = c.args.work.now in
    let t = listed tb.trail in
    let cs = all_clauses f tb.learned in
    let few = few_literals _ f.pile told (g.met.P.Case.limits c.force.inside.pile.now) in
    let live : Live n t (member c.live_literals-live.result) = rw (← told) c.live_literals-live.ensures in
    let s = working K f c.args.best.now tb in
    let same = misses_false n t (member c.live_literals-live.result) few live in
    let first : core.some c.in-Some.i ≡ place (is_false n t) cs = c.in-Some.ensures ∙ ap (λ (f : Literals → Bool). place f cs) same in
    record {
      leaves = λ _. ap (state K n f.conditions c.args.best.now) (c.conflict_with.ensures.leaves ∙ ap (λ (D : Literals). conflicting D (shape tb)) (fun_ext c.clause-set.ensures))
          ∙ sym (forward_false K m s c.in-Some.i first);
      notes = c.conflict_with.ensures.notes _;
    }

pub returns-then-best_is_not_above : goal.returns-then-best_is_not_above
unfolding conflicted complements clauses in_force
returns-then-best_is_not_above g c =
    let K = kind_of g.K.Charge in
    let f = c.args.force.now in
    let told : contents (g.P.Case.meaning c.force.inside.pile.now) ≡ f.pile = ap (λ (x : InForce). x.pile) c.force.view_is in
    let m = f.pile in
    let n = m.options in
    let tb = c.args.work.now in
    let t = listed tb.trail in
    let cs = all_clauses f tb.learned in
    let few = few_literals _ f.pile told (g.met.P.Case.limits c.force.inside.pile.now) in
    let live : Live n t (member c.live_literals-live.result) = rw (← told) c.live_literals-live.ensures in
    let s = working K f c.args.best.now tb in
    let above : best_not_above K m s.best (on t) ≡ true = rw (← told) (sym c.if-best_is_not_above.ensures) in
    let same = misses_false n t (member c.live_literals-live.result) few live in
    let none : core.none ≡ place (is_false n t) cs = c.in_default.ensures ∙ ap (λ (f : Literals → Bool). place f cs) same in
    record {
      leaves = λ _. ap (state K n f.conditions c.args.best.now) (c.conflict_with-then-best_is_not_above.ensures.leaves ∙ ap (λ (D : Literals). conflicting D (shape tb)) (fun_ext c.complements-set.ensures))
          ∙ sym (forward_best K m s none above);
      notes = c.conflict_with-then-best_is_not_above.ensures.notes _;
    }

pub extend-requires : goal.extend-requires
extend-requires g c =
    let f = c.args.force.now in
    let told : contents (g.P.Case.meaning c.force.inside.pile.now) ≡ f.pile = ap (λ (x : InForce). x.pile) c.force.view_is in
    let n = f.pile.options in
    let t = listed c.args.work.now.trail in
    let few = few_literals _ f.pile told (g.met.P.Case.limits c.force.inside.pile.now) in
    let live : Live n t (member c.live_literals-live.result) = rw (← told) c.live_literals-live.ensures in
    let L = member c.live_literals-live.result in
    let R = member c.literals-set.result in
    let low = c.in-Some-first.ensures in
    record {
      live = live;
      lowest = lowest_unset n t L few live R c.literals-set.ensures c.in-Some-first.lowest (sym (c.without.ensures c.in-Some-first.lowest) ∙ low.is_in)
          (λ k h. sym (c.without.ensures k) ∙ low.none_below k h);
    }

pub returns-in-Some-first : goal.returns-in-Some-first
unfolding clauses in_force
returns-in-Some-first g c =
    let K = kind_of g.K.Charge in
    let f = c.args.force.now in
    let told : contents (g.P.Case.meaning c.force.inside.pile.now) ≡ f.pile = ap (λ (x : InForce). x.pile) c.force.view_is in
    let m = f.pile in
    let n = m.options in
    let tb = c.args.work.now in
    let t = listed tb.trail in
    let cs = all_clauses f tb.learned in
    let few = few_literals _ f.pile told (g.met.P.Case.limits c.force.inside.pile.now) in
    let live : Live n t (member c.live_literals-live.result) = rw (← told) c.live_literals-live.ensures in
    let s = working K f c.args.best.now tb in
    let L = member c.live_literals-live.result in
    let R = member c.literals-set.result in
    let above : best_not_above K m s.best (on t) ≡ false = rw (← told) (sym c.if-best_is_not_above.ensures) in
    let same = misses_false n t L few live in
    let none : core.none ≡ place (is_false n t) cs = c.in_default.ensures ∙ ap (λ (f : Literals → Bool). place f cs) same in
    let low = c.in-Some-first.ensures in
    let v = c.in-Some-first.lowest / 2 in
    let lowest : LowestUnset n t v =
    lowest_unset n t L few live R c.literals-set.ensures c.in-Some-first.lowest (sym (c.without.ensures c.in-Some-first.lowest) ∙ low.is_in)
    (λ k h. sym (c.without.ensures k) ∙ low.none_below k h) in
    record {
      leaves = λ _. c.extend.ensures.leaves c.args.best.now ∙ sym (forward_extend K m s none above (lowest_first n t v lowest).1);
      notes = c.extend.ensures.notes;
    }

pub returns-in-None : goal.returns-in-None
unfolding improved best_of clauses in_force
returns-in-None g c =
    let K = kind_of g.K.Charge in
    let f = c.args.force.now in
    let told : contents (g.P.Case.meaning c.force.inside.pile.now) ≡ f.pile = ap (λ (x : InForce). x.pile) c.force.view_is in
    let m = f.pile in
    let n = m.options in
    let tb = c.args.work.now in
    let t = listed tb.trail in
    let cs = all_clauses f tb.learned in
    let few = few_literals _ f.pile told (g.met.P.Case.limits c.force.inside.pile.now) in
    let live : Live n t (member c.live_literals-live.result) = rw (← told) c.live_literals-live.ensures in
    let s = working K f c.args.best.now tb in
    let L = member c.live_literals-live.result in
    let R = member c.literals-set.result in
    let above : best_not_above K m s.best (on t) ≡ false = rw (← told) (sym c.if-best_is_not_above.ensures) in
    let same = misses_false n t L few live in
    let none : core.none ≡ place (is_false n t) cs = c.in_default.ensures ∙ ap (λ (f : Literals → Bool). place f cs) same in
    let cost : c.trail_charge.result ≡ charge K m (on t) = rw (← told) c.trail_charge.ensures in
    let full : any n (unset t) ≡ false = none_unset n t L few live R c.literals-set.ensures (λ k. sym (c.without.ensures k) ∙ c.in-None.ensures k) in
    record {
      leaves = λ _.
          ap₂ (λ (x : Shape) (k : K.charges). state K n f.conditions (Some k) x) (c.improve.ensures.leaves ∙ ap (λ (C : Literals). improving C (shape tb)) (fun_ext c.literals-set.ensures)) cost
          ∙ sym (forward_improve K m s none above full);
      notes = c.improve.ensures.notes _;
    }
