use Rattle.std.proofs.Common.{not, Option, sym, ap, ◌∙◌}
use Rattle.charges.specs.Generic.{kind_of}
use Rattle.charges.specs.Charges.{contents}
use Rattle.calculus.specs.Steps.{closed, by_conflict}
use Rattle.literals.specs.declared.LiteralSet.{LiteralSet}
use Rattle.literals.specs.Members.{member}
use Rattle.steps.specs.Shapes.{conflict_of}
use Rattle.steps.specs.States.{seen}
use Rattle.steps.proofs.Staged.{step_closed, step_open, by_some}
use Rattle.steps.proofs.step.step.Goals as goal

pub returns-then-is_closed-clause-answers : goal.returns-then-is_closed-clause-answers
unfolding closed
returns-then-is_closed-clause-answers g c = ap not c.if-is_closed.ensures

pub returns-then-is_closed-clause-leaves : goal.returns-then-is_closed-clause-leaves
unfolding closed
returns-then-is_closed-clause-leaves g c =
    let K = kind_of g.K.Charge in
    let p = g.P.Case.meaning c.args.pile.now in
    let shut = sym c.if-is_closed.ensures in
    sym (step_closed K (contents p) (seen K p c.args.best.now c.args.tables.now) shut)

pub returns-in-None-clause-answers : goal.returns-in-None-clause-answers
unfolding closed
returns-in-None-clause-answers g c = ap not c.if-is_closed.ensures

pub returns-in-None-clause-leaves : goal.returns-in-None-clause-leaves
unfolding closed
returns-in-None-clause-leaves g c =
    let K = kind_of g.K.Charge in
    let p = g.P.Case.meaning c.args.pile.now in
    let tb = c.args.tables.now in
    let s = seen K p c.args.best.now tb in
    let yet = sym c.if-is_closed.ensures in
    c.forward.ensures.leaves c.in-None.is ∙ sym (step_open K (contents p) s yet ∙ ap (λ (o : Option LiteralSet). by_conflict K (contents p) s (conflict_of o)) c.in-None.is)

pub returns-in-Some-clause-answers : goal.returns-in-Some-clause-answers
unfolding closed
returns-in-Some-clause-answers g c = ap not c.if-is_closed.ensures

pub returns-in-Some-clause-leaves : goal.returns-in-Some-clause-leaves
unfolding closed
returns-in-Some-clause-leaves g c =
    let K = kind_of g.K.Charge in
    let p = g.P.Case.meaning c.args.pile.now in
    let tb = c.args.tables.now in
    let b = c.args.best.now in
    let s = seen K p b tb in
    let yet = sym c.if-is_closed.ensures in
    c.backward.ensures.leaves b
    ∙ sym (step_open K (contents p) s yet ∙ ap (λ (o : Option LiteralSet). by_conflict K (contents p) s (conflict_of o)) c.in-Some.is ∙ by_some K (contents p) s (member c.in-Some.set))
