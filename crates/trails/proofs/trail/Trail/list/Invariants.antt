use Rattle.std.proofs.Common.{◌≡◌, ◌++◌, take, drop}
use Rattle.trails.specs.Entries.{trail_of, literals_in}
use Rattle.trails.proofs.trail.Trail.list.Given as goal

abbrev pub invariant-loop-i : goal.invariant-loop-i
invariant-loop-i l = l.into ≡ literals_in (trail_of (take l.i l.e-items)) ++ drop l.i l.initial.into
