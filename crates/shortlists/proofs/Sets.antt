-- A write into the first items of a list.
use Rattle.std.proofs.Common.{◌≡◌, ℕ, ◌<◌, List, take, slice_set}
use Rattle.std.proofs.Math.Seq.{take-set-lt}

pub set_within : {X : Type 0} (xs : List X) (n i : ℕ) (y : X) → i < n → take n (slice_set xs i y) ≡ slice_set (take n xs) i y
set_within xs n i y h = take-set-lt n xs i y h
