use Rattle.charges.specs.Charges.{contents}
use Rattle.charges.specs.Generic.{kind_of}
use Rattle.piles.proofs.OpenCharges.{open_charged}
use Rattle.piles.proofs.laws.open_charges.Goals as goal

pub returns : goal.returns
returns g c = open_charged (kind_of g.K.Charge) g.met.K.Charge.laws (contents (g.C.Case.meaning c.args.case.now))
