use Rattle.std.proofs.Common.{◌≡◌, ℕ, ◌*◌, ◌<◌, Some, sym, ap, ◌∙◌, subst, ap₂}
use Rattle.cases.specs.Literals.{complement}
use Rattle.charges.specs.Generic.{kind_of}
use Rattle.charges.specs.Charges.{contents}
use Rattle.calculus.specs.Scans.{first, greatest}
use Rattle.calculus.specs.Trails.{level, level_of, cut}
use Rattle.calculus.specs.States.{in_force}
use Rattle.calculus.specs.Changes.{backtracked}
use Rattle.calculus.specs.Steps.{at_level, can_backtrack, others}
use Rattle.literals.specs.Members.{member}
use Rattle.trails.specs.Trails.{listed, has_place}
use Rattle.trails.proofs.Facts.{levelled, apart, few}
use Rattle.rules.specs.Force.{InForce}
use Rattle.steps.specs.Shapes.{shape, backing, Right, Asserted}
use Rattle.steps.specs.States.{state, working}
use Rattle.steps.proofs.Staged.{backward_yes, backward_no}
use Rattle.steps.proofs.Narrowed.{few_literals}
use Rattle.steps.proofs.Places.{lower, has_room}
use Rattle.steps.proofs.backward.backward.Goals as goal

pub backtrack-requires : goal.backtrack-requires
backtrack-requires g c =
    let f = c.args.force.now in
    let told : contents (g.P.Case.meaning c.force.inside.pile.now) ≡ f.pile = ap (λ (x : InForce). x.pile) c.force.view_is in
    let n = f.pile.options in
    let tb = c.args.work.now in
    let t = listed tb.trail in
    let D = member c.args.set in
    let narrow = few_literals _ f.pile told (g.met.P.Case.limits c.force.inside.pile.now) in
    let w : Asserted n t D (Some c.in-Some.literal) = rw (← told) c.in-Some.ensures in
    let L : ℕ = first (2 * n) (at_level t D (level t)) in
    let levels = λ (x : ℕ). level_of t (complement x) in
    let below : c.level_below-i.result ≡ greatest (2 * n) (others D c.in-Some.literal) levels = rw (← told) c.level_below-i.ensures in
    let i : c.level_below-i.result ≡ greatest (2 * n) (others D L) levels = below ∙ ap (λ (x : ℕ). greatest (2 * n) (others D x) levels) w.1 in
    record {
      few = c.in_force.ensures.few;
      lower =
          subst (λ (x : ℕ). x < level t) (sym i) (lower n t D narrow (few tb.trail) (apart tb.trail) (levelled tb.trail) w.0);
      room =
          ap₂ (λ (x y : ℕ). has_place (cut x t) y) i w.1 ∙ has_room n t D narrow (few tb.trail) (apart tb.trail) (levelled tb.trail) w.0;
    }

pub returns-in-Some : goal.returns-in-Some
unfolding backtracked in_force
returns-in-Some g c =
    let K = kind_of g.K.Charge in
    let f = c.args.force.now in
    let told : contents (g.P.Case.meaning c.force.inside.pile.now) ≡ f.pile = ap (λ (x : InForce). x.pile) c.force.view_is in
    let m = f.pile in
    let n = m.options in
    let tb = c.args.work.now in
    let t = listed tb.trail in
    let D = member c.args.set in
    let w : Asserted n t D (Some c.in-Some.literal) = rw (← told) c.in-Some.ensures in
    let l = c.in-Some.literal in
    let i = c.level_below-i.result in
    let below : i ≡ greatest (2 * n) (others D l) (λ (x : ℕ). level_of t (complement x)) = rw (← told) c.level_below-i.ensures in
    let base = c.in_force.ensures.answers in
    record {
      leaves = λ b.
          ap (state K n f.conditions b) (c.backtrack.ensures.leaves ∙ ap (λ (r : ℕ). backing r D l i (shape tb)) base)
          ∙ sym (backward_yes m (working K f b tb) D (can_backtrack n t D) l i w.0 w.1 below);
      notes = λ _. subst (λ (x : ℕ). Right x c.backtrack.new.self) base c.backtrack.ensures.notes;
    }

pub returns-in-None : goal.returns-in-None
returns-in-None g c =
    let K = kind_of g.K.Charge in
    let f = c.args.force.now in
    let told : contents (g.P.Case.meaning c.force.inside.pile.now) ≡ f.pile = ap (λ (x : InForce). x.pile) c.force.view_is in
    let tb = c.args.work.now in
    let t = listed tb.trail in
    let D = member c.args.set in
    record {
      leaves = λ b. c.unwind.ensures.leaves b ∙ sym (backward_no f.pile (working K f b tb) D (can_backtrack f.pile.options t D) (rw (← told) c.in-None.ensures));
      notes = c.unwind.ensures.notes;
    }
