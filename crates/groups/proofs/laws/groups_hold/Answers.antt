use Rattle.groups.specs.Facts.GroupLayers.{groups_of}
use Rattle.groups.proofs.GroupLaw.{groups_hold}
use Rattle.groups.proofs.laws.groups_hold.Goals as goal

pub returns : goal.returns
returns g c = groups_hold (groups_of c.args.layer.now) _
