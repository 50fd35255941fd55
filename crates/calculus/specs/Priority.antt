-- The order of the eight rules of the calculus: one step is by the first that applies.
use Rattle.std.specs.Prelude.{ℕ, suc, ◌+◌, ◌≤◌, cond, nat_le}
use Rattle.cases.specs.Meanings.{Sound}
use Rattle.charges.specs.Kinds.{Kind}
use Rattle.calculus.specs.States.{State}
use Rattle.calculus.specs.Calculus.{Rule, order, Moves}

-- A rule applies if it can make something of the state.
abbrev pub Applies : (K : Kind) → Sound → State K → Rule → Type 0
Applies K m s q = (u : State K) × Moves K m s q u

-- The state t follows from s by the first rule that applies.
pub record Next (K : Kind) (m : Sound) (s t : State K) : Type 0 where
  pub rule : Rule
  pub move : Moves K m s rule t
  pub first : (q : Rule) → Applies K m s q → order rule ≤ order q

-- A conflict is a step by rule 1 or 2.
abbrev pub is_conflict : Rule → ℕ
is_conflict q = cond (nat_le (order q) 2) 1 0

-- So many steps, one after another.
pub data Chain (K : Kind) (m : Sound) : State K → ℕ → State K → Type 0 where
  stays : {s : State K} → Chain K m s 0 s
  goes : {s t u : State K} {k : ℕ} → Next K m s t → Chain K m t k u → Chain K m s (suc k) u

-- The conflicts among them.
unfoldable pub conflicts_of : {K : Kind} {m : Sound} {s u : State K} {k : ℕ} → Chain K m s k u → ℕ
conflicts_of stays = 0
conflicts_of (goes n c) = is_conflict n.rule + conflicts_of c
