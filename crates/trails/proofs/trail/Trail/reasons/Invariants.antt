use Rattle.std.proofs.Common.{◌≡◌, ℕ, ◌+◌, ◌<◌, false, length, get_or, take}
use Rattle.calculus.specs.Learned.{is_reason}
use Rattle.trails.specs.Entries.{trail_of}
use Rattle.trails.proofs.trail.Trail.reasons.Given as goal

abbrev pub invariant-loop-e : goal.invariant-loop-e
invariant-loop-e l =
    record {
      full : length l.named ≡ 64;
      tells : (j : ℕ) → j < 64 → get_or l.named j false ≡ is_reason (trail_of (take l.e-index l.e-items)) (l.base + j);
    }
