-- Numbers cut off above the largest budget.
use Rattle.std.specs.Prelude.{ℕ, ◌^◌, min}

abbrev pub capped : ℕ → ℕ
capped n = min (2 ^ 64) n
