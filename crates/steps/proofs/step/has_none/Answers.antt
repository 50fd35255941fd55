use Rattle.std.proofs.Common.{◌*◌, ◌≤◌, Bool, ◌&&◌, ap, ◌∙◌, arith}
use Rattle.charges.specs.Charges.{contents}
use Rattle.charges.proofs.Contents.{contents_options}
use Rattle.calculus.specs.Steps.{empty_set}
use Rattle.literals.specs.Members.{member}
use Rattle.steps.proofs.Narrowed.{empty_told}
use Rattle.steps.proofs.step.has_none.Goals as goal

pub returns : goal.returns
unfolding empty_set
returns g c =
    let p = g.P.Case.meaning c.args.pile.now in
    let n = (contents p).options in
    let few : 2 * n ≤ 128 = omega (arith, contents_options p, (g.met.P.Case.limits c.args.pile.now).few_options) in
    let D = member c.args.set.now in
    empty_told n D (member c.meet.result) c.is_empty.result few (λ x. c.meet.ensures x ∙ ap (λ (b : Bool). D x && b) (c.all_literals.ensures x)) c.is_empty.ensures.yes c.is_empty.ensures.no
