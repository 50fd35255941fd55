use Rattle.calculus.proofs.Piles.{promises_kept}
use Rattle.calculus.proofs.promises_kept.Goals as goal

pub returns : goal.returns
returns g c = promises_kept _ g.met.K.Charge.laws
