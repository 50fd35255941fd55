use Rattle.std.proofs.Common.{refl}
use Rattle.tables.specs.Learned.{rows_of}
use Rattle.tables.proofs.learned.Learned.empty.Goals as goal

pub returns : goal.returns
unfolding rows_of
returns c = refl
