-- What the words of a line leave out of account.
use Rattle.std.specs.Prelude.{◌≡◌, ℕ, List, [], ◌∷◌, ◌++◌}
use Rattle.commands.specs.Calls.{command_of}

-- Spaces before the first word and behind the last do not matter, nor how many stand between two.
pub record Spacing : Type 0 where
  pub in_front : (line : List ℕ) → command_of (32 ∷ line) ≡ command_of line
  pub at_end : (line : List ℕ) → command_of (line ++ 32 ∷ []) ≡ command_of line
  pub doubled : (front back : List ℕ) → command_of (front ++ (32 ∷ (32 ∷ back))) ≡ command_of (front ++ (32 ∷ back))
