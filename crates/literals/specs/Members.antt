-- A set of literals by its members.
use Rattle.std.specs.Prelude.{◌≡◌, ℕ, ◌/◌, ◌%◌, ◌^◌, ◌<◌, Bool, true, false, ◌==◌}
use Rattle.cases.specs.Literals.{Literals}
use Rattle.literals.specs.declared.LiteralSet.{LiteralSet}

-- Digit k of a number.
abbrev pub bit_of : ℕ → ℕ → Bool
bit_of n k = n / 2 ^ k % 2 == 1

unfoldable pub member : LiteralSet → Literals
member s k = bit_of s.bits k

-- The set has the literal l and no other.
pub record OnlyOne (s : LiteralSet) (l : ℕ) : Type 0 where
  pub is_literal : l < 128
  pub is_alone : (k : ℕ) → k < 128 → member s k ≡ (k == l)

-- The set has the literal l and none below it.
pub record Lowest (s : LiteralSet) (l : ℕ) : Type 0 where
  pub is_in : member s l ≡ true
  pub none_below : (k : ℕ) → k < l → member s k ≡ false
