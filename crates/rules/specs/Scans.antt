-- Rules that have no literal in a set, or just one.
use Rattle.std.specs.Prelude.{◌≡◌, ℕ, ◌<◌, ◌≤◌, Bool, true, false, not, ◌&&◌, List, length, Some, None, Option, ◌==◌, ◌≢◌, slice_index_or}
use Rattle.std.proofs.Math.Option as core
use Rattle.cases.specs.Literals.{Literals}
use Rattle.calculus.specs.Scans.{any, first, count, place}
use Rattle.calculus.specs.States.{clause}

-- How many literals a set tells apart.
abbrev pub span : ℕ
span = 128

-- The literals of the rule C that are in the set S.
abbrev pub within : Literals → Literals → Literals
within S C x = C x && S x

-- The rule has no literal in S.
unfoldable pub misses : Literals → Literals → Bool
misses S C = not (any span (within S C))

-- It has just one literal in S, and that one is not in R.
unfoldable pub forces : Literals → Literals → Literals → Bool
forces S R C = count span (within S C) == 1 && not (R (first span (within S C)))

-- A place that was found, or none.
abbrev pub found : Option ℕ → core.Option ℕ
found None = core.none
found (Some i) = core.some i

-- The first number below n that passes the test p.
abbrev pub FirstOf : (ℕ → Bool) → ℕ → Option ℕ → Type 0
FirstOf p n None = (q : ℕ) → q < n → p q ≡ false
FirstOf p n (Some i) = (i < n) × ((q : ℕ) → q < i → p q ≡ false) × (p i ≡ true)

-- Whether a rule has a literal other than l in S, at a place from i on.
abbrev pub OtherFrom : Literals → List ℕ → ℕ → ℕ → Bool → Type 0
OtherFrom S r i l true = (j : ℕ) × (j < length r) × (slice_index_or r j 255 < span) × (S (slice_index_or r j 255) ≡ true) × (slice_index_or r j 255 ≢ l)
OtherFrom S r i l false = (j : ℕ) → i ≤ j → j < length r → S (slice_index_or r j 255) ≡ true → slice_index_or r j 255 ≡ l

-- The one literal of C in S, where it has just one and that one is not in R.
abbrev pub ForcedBy : Literals → Literals → Literals → Option ℕ → Type 0
ForcedBy S R C None = forces S R C ≡ false
ForcedBy S R C (Some l) = (forces S R C ≡ true) × (l ≡ first span (within S C)) × (l < span)

-- The place of the first of the rules that has such a literal, and the literal.
abbrev pub UnitOf : Literals → Literals → List Literals → Option (ℕ × ℕ) → Type 0
UnitOf S R cs None = place (forces S R) cs ≡ core.none
UnitOf S R cs (Some u) = (place (forces S R) cs ≡ core.some u.0) × (u.1 ≡ first span (within S (clause cs u.0))) × (u.1 < span) × (u.0 ≤ 608)
