use Rattle.std.proofs.Common.{arith}
use Rattle.groups.specs.Facts.Groups.{square}
use Rattle.groups.proofs.pairs.pair_count.Goals as goal

pub returns-clause-value : goal.returns-clause-value
returns-clause-value c = omega (arith, square c.args.n)
