-- A list made of a function's values at 0, 1, 2 and so on.
use Rattle.std.specs.Prelude.{ℕ, List, map}
use Rattle.std.specs.List.{range_with_len}

-- f 0, f 1, .. : n values.
abbrev pub counted : {X : Type 0} → (ℕ → X) → ℕ → List X
counted f n = map f (range_with_len 0 n)
