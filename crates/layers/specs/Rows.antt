-- Lists of literals or options.
use Rattle.std.specs.Prelude.{ℕ, ◌+◌, max, List, [], ◌∷◌}

-- The first number past all of a list's: its numbers are all below n exactly if this is at most n.
abbrev pub past_all : List ℕ → ℕ
past_all [] = 0
past_all (x ∷ xs) = max (x + 1) (past_all xs)
