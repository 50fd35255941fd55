use Rattle.std.proofs.Common.{◌≡◌, length}
use Rattle.calculus.specs.Trails.{cut}
use Rattle.trails.specs.Trails.{listed}
use Rattle.trails.proofs.trail.Trail.cut.Given as goal

abbrev pub invariant-loop-level : goal.invariant-loop-level
invariant-loop-level l = cut l.level (listed l.self) ≡ cut l.level (listed l.initial.self)

abbrev pub decreases-loop-level : goal.decreases-loop-level
decreases-loop-level l = length (listed l.self)
