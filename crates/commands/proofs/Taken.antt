-- The literals read so far, and those to come.
use Rattle.std.proofs.Common.{ℕ, List, ◌++◌, Option}
use Rattle.std.specs.Option.{option_map}

-- The literals, where those of v stand before them.
abbrev pub behind : List ℕ → Option (List ℕ) → Option (List ℕ)
behind v more = option_map (λ ls. v ++ ls) more
