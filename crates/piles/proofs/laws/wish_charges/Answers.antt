use Rattle.std.proofs.Common.{◌≡◌, ◌*◌, length}
use Rattle.cases.specs.Meanings.{Meaning, oversize, sound}
use Rattle.cases.specs.Limits.{Limited}
use Rattle.charges.specs.Charges.{contents}
use Rattle.charges.specs.Generic.{kind_of}
use Rattle.piles.proofs.WishCharges.{wish_charged}
use Rattle.piles.proofs.laws.wish_charges.Goals as goal

full : (m : Meaning) → Limited m → length (contents m).amounts ≡ 2 * (contents m).options
full oversize h = h.amount_each
full (sound s) h = h.amount_each

pub returns : goal.returns
returns g c ws =
    let m = g.C.Case.meaning c.args.case.now in
    wish_charged (kind_of g.K.Charge) g.met.K.Charge.laws ws (contents m) (full m (g.met.C.Case.limits c.args.case.now))
