use Rattle.charges.specs.Generic.{kind_of}
use Rattle.charges.proofs.Contents.{priced}
use Rattle.steps.proofs.literals_of.price.Goals as goal

pub returns : goal.returns
returns g c = priced (kind_of g.K.Charge) (g.P.Case.meaning c.args.pile.now) c.args.l c.amount.result c.price.result c.amount.ensures c.price.ensures
