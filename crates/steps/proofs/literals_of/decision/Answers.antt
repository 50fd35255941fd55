use Rattle.std.proofs.Common.{◌+◌, ◌*◌, Bool, cond, not, sym, ap, ◌∙◌, ap₂}
use Rattle.calculus.specs.Changes.{decision}
use Rattle.steps.proofs.literals_of.decision.Goals as goal

pub returns-then-not_above : goal.returns-then-not_above
unfolding decision
returns-then-not_above g c =
    let v = c.args.v in
    let tells = sym (ap₂ g.K.Charge.not_above c.price-off.ensures c.price-on.ensures) ∙ sym c.if-not_above.ensures in
    sym (ap (λ (b : Bool). cond (not b) (2 * v) (2 * v + 1)) tells)

pub returns-else-not_above : goal.returns-else-not_above
unfolding decision
returns-else-not_above g c =
    let v = c.args.v in
    let tells = sym (ap₂ g.K.Charge.not_above c.price-off.ensures c.price-on.ensures) ∙ sym c.if-not_above.ensures in
    sym (ap (λ (b : Bool). cond (not b) (2 * v) (2 * v + 1)) tells)
