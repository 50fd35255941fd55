-- The learned table, which of its rows are reasons, and the row that goes when one more is learned.
use Rattle.std.specs.Prelude.{ℕ, ◌+◌, ◌-◌, Bool, false, cond, not, ◌||◌, List, [], ◌∷◌, length, ◌==◌, nat_le, nat_lt}
use Rattle.cases.specs.Literals.{Literals}
use Rattle.cases.specs.Meanings.{Sound}
use Rattle.charges.specs.Kinds.{Kind}
use Rattle.calculus.specs.Scans.{first}
use Rattle.calculus.specs.Trails.{Reason, decided, forced, Trail}
use Rattle.calculus.specs.States.{State, in_force}

-- The learned table has 64 rows.
abbrev pub most_rows : ℕ
most_rows = 64

unfoldable pub is_place : Reason → ℕ → Bool
is_place decided i = false
is_place (forced j) i = j == i

-- Some literal of the trail has the rule at place i for its reason.
unfoldable pub is_reason : Trail → ℕ → Bool
is_reason [] i = false
is_reason (e ∷ t) i = is_place e.reason i || is_reason t i

-- What row j of the learned table notes: whether it is a reason.
unfoldable pub row_is_reason : {K : Kind} → Sound → State K → ℕ → Bool
row_is_reason m s j = is_reason s.trail (length (in_force m s) + j)

-- The row that goes before one more is learned, r being the number of rules in force: of a full table the oldest that
-- is no reason, and else the place past the last, where no row is.
unfoldable pub leaving : ℕ → Trail → List Literals → ℕ
leaving r t rows = cond (nat_le most_rows (length rows)) (first (length rows) (λ j. not (is_reason t (r + j)))) (length rows)

-- The rows past the place p move down by one, and so do the reasons that name them.
unfoldable pub moved : ℕ → Reason → Reason
moved p decided = decided
moved p (forced i) = forced (cond (nat_lt p i) (i - 1) i)

unfoldable pub renamed : ℕ → Trail → Trail
renamed p [] = []
renamed p (e ∷ t) = record { literal = e.literal; level = e.level; reason = moved p e.reason } ∷ renamed p t
