use Rattle.std.proofs.Common.{ℕ, sym, ap, ◌∙◌, subst}
use mathlib.Core.Path.{fun_ext}
use Rattle.cases.specs.Literals.{Literals}
use Rattle.charges.specs.Generic.{kind_of}
use Rattle.calculus.specs.States.{clauses, in_force}
use Rattle.calculus.specs.Changes.{popped}
use Rattle.literals.specs.Members.{member}
use Rattle.trails.specs.Entries.{entry_of, reason_of, tail_of}
use Rattle.trails.specs.Trails.{listed}
use Rattle.steps.specs.Shapes.{shape, popping, Right}
use Rattle.steps.specs.States.{state, working}
use Rattle.steps.proofs.Staged.{back_none, back_skip, back_resolve, back_stay}
use Rattle.steps.proofs.backward.unwind.Goals as goal

pub returns-in_default : goal.returns-in_default
returns-in_default g c =
    let K = kind_of g.K.Charge in
    let f = c.args.force.now in
    let tb = c.args.work.now in
    record {
      leaves = λ b. sym (back_none f.pile (working K f b tb) (member c.args.set) (listed tb.trail) c.in_default.ensures);
      notes = λ h. h;
    }

pub returns-then-not-has : goal.returns-then-not-has
unfolding popped
returns-then-not-has g c =
    let K = kind_of g.K.Charge in
    let f = c.args.force.now in
    let tb = c.args.work.now in
    let t = listed tb.trail in
    let D = member c.args.set in
    let e = entry_of c.in-Some.top in
    record {
      leaves = λ b. ap (state K f.pile.options f.conditions b) c.pop.ensures.leaves
          ∙ sym (back_skip f.pile (working K f b tb) D t e (tail_of t) c.in-Some.ensures (ap D (sym c.opposite.ensures) ∙ sym c.if-not-has.ensures));
      notes = subst (λ (x : ℕ). Right x tb → Right x c.pop.new.self) c.in_force-base.ensures.answers c.pop.ensures.notes;
    }

pub returns-in-Forced : goal.returns-in-Forced
unfolding popped clauses in_force
returns-in-Forced g c =
    let K = kind_of g.K.Charge in
    let f = c.args.force.now in
    let tb = c.args.work.now in
    let t = listed tb.trail in
    let D = member c.args.set in
    let e = entry_of c.in-Some.top in
    let i = c.in-Forced.place in
    record {
      leaves = λ b.
          ap (state K f.pile.options f.conditions b) (c.pop-in-Forced.ensures.leaves ∙ ap (λ (x : Literals). popping x (shape tb)) (fun_ext c.resolvent-rest.ensures))
          ∙ sym (back_resolve f.pile (working K f b tb) D t e (tail_of t) c.in-Some.ensures i (ap D (sym c.opposite.ensures) ∙ sym c.if-not-has.ensures) (ap reason_of c.in-Forced.is));
      notes = subst (λ (x : ℕ). Right x tb → Right x c.pop-in-Forced.new.self) c.in_force-base.ensures.answers c.pop-in-Forced.ensures.notes;
    }

pub returns-in_default-reason : goal.returns-in_default-reason
returns-in_default-reason g c =
    let K = kind_of g.K.Charge in
    let f = c.args.force.now in
    let tb = c.args.work.now in
    let t = listed tb.trail in
    let D = member c.args.set in
    let e = entry_of c.in-Some.top in
    record {
      leaves = λ b. sym (back_stay f.pile (working K f b tb) D t e (tail_of t) c.in-Some.ensures (ap D (sym c.opposite.ensures) ∙ sym c.if-not-has.ensures) (ap reason_of c.in_default-reason.is));
      notes = λ h. h;
    }
