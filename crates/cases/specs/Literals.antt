-- Literals and sets of literals.
use Rattle.std.specs.Prelude.{ℕ, ◌+◌, ◌-◌, ◌*◌, ◌/◌, ◌%◌, Bool, false, ◌||◌, List, [], ◌∷◌, ◌==◌}

-- Options are numbered from 0. Literal 2v sets option v on, literal 2v + 1 sets it off, and each is the other's complement.
unfoldable pub complement : ℕ → ℕ
complement l = 2 * (l / 2) + (1 - l % 2)

-- A set of literals is told by its members.
abbrev pub Literals : Type 0
Literals = ℕ → Bool

-- A rule is a list of literals, read as a set.
unfoldable pub members : List ℕ → Literals
members [] x = false
members (l ∷ r) x = l == x || members r x
