use Rattle.std.proofs.Common.{arith}
use Rattle.wishes.specs.Facts.Wishes.{wish_rules_counted_held}
use Rattle.wishes.specs.Facts.WishLayers.{wishes_of, length-wishes}
use Rattle.wishes.proofs.layer.WishesCase.rules.Goals as goal

pub returns : goal.returns
returns g c =
    let s = c.args.self.now in
    omega (arith, c.rules.ensures, c.len.ensures.value, wish_rules_counted_held (wishes_of s) (g.C.Case.meaning s.below) (g.met.C.Case.limits s.below) s.fits, length-wishes s)
