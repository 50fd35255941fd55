-- Choices and partial choices, and the rules that they keep.
use Rattle.std.specs.Prelude.{◌≡◌, ℕ, ◌*◌, ◌/◌, ◌%◌, ◌<◌, Bool, true, false, ◌&&◌, ◌||◌, List, [], ◌∷◌, ◌==◌, ◌≢◌, slice_index_or}
use Rattle.std.specs.Bool.{beq}
use Rattle.cases.specs.Literals.{Literals, complement}

-- A choice sets all options: true is on, and option 0 stands first. These are the literals that it sets.
unfoldable pub sets : List Bool → Literals
sets c l = beq (slice_index_or c (l / 2) false) (l % 2 == 0)

-- A rule is kept by the literals of S if one of its literals is in S. Nothing keeps the empty rule.
unfoldable pub keeps : Literals → List ℕ → Bool
keeps S [] = false
keeps S (l ∷ r) = S l || keeps S r

unfoldable pub keeps_all : Literals → List (List ℕ) → Bool
keeps_all S [] = true
keeps_all S (r ∷ rs) = keeps S r && keeps_all S rs

-- A partial choice of n options may leave some open: a set of their literals with none beside its complement. It keeps
-- a rule by the same words.
pub record Partial (n : ℕ) (S : Literals) : Type 0 where
  pub in_range : (l : ℕ) → S l ≡ true → l < 2 * n
  pub not_both : (l : ℕ) → S l ≡ true → S (complement l) ≢ true
