-- Facts on lists of literals or options, all proved here.
use Rattle.std.specs.Prelude.{ℕ, zero, suc, ◌<◌, ◌≤◌, List, [], ◌∷◌, length, slice_index_or}
use Rattle.std.proofs.Common.{arith}
use Rattle.std.specs.List.{AllByRecursion}
use Rattle.layers.specs.Rows.{past_all}

-- All of a list's numbers are below what is past them.
pub below_past : (xs : List ℕ) (b : ℕ) → past_all xs ≤ b → (j d : ℕ) → j < length xs → slice_index_or xs j d < b
below_past [] b h j d k = absurd (omega arith)
below_past (x ∷ xs) b h zero d k = omega arith
below_past (x ∷ xs) b h (suc j) d k = below_past xs b (omega arith) j d (omega arith)

pub all_below_past : (xs : List ℕ) (b : ℕ) → past_all xs ≤ b → AllByRecursion (λ x. x < b) xs
all_below_past [] b h = tt
all_below_past (x ∷ xs) b h = (omega arith, all_below_past xs b (omega arith))
