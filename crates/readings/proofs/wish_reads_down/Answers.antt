use Rattle.readings.proofs.WishReading.{wish_reads_down}
use Rattle.readings.proofs.wish_reads_down.Goals as goal

pub returns : goal.returns
returns g c = wish_reads_down _ g.met.K.Charge.laws
