use Rattle.std.proofs.Common.{rules}
use Rattle.layers.proofs.OpenLaw.{open_reads_down}
use Rattle.layers.proofs.laws.open_reads_down.Goals as goal

pub returns : goal.returns
returns g c = open_reads_down _ (search rules)
