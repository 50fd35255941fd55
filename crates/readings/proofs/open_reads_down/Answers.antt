use Rattle.readings.proofs.OpenReading.{open_reads_down}
use Rattle.readings.proofs.open_reads_down.Goals as goal

pub returns : goal.returns
returns g c = open_reads_down _ g.met.K.Charge.laws
