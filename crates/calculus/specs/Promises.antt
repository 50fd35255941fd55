-- What is promised of a search after any list of calls.
use Rattle.std.specs.Prelude.{◌≡◌, ℕ, ◌+◌, ◌*◌, ◌^◌, ◌<◌, ◌≤◌, Bool, true, false, ◌⊎◌, ◌↔◌, List, ◌++◌, length}
use Rattle.std.proofs.Math.Option.{Option, some}
use Rattle.cases.specs.Literals.{Literals}
use Rattle.cases.specs.Choices.{sets, keeps_all}
use Rattle.cases.specs.Meanings.{Sound}
use Rattle.charges.specs.Kinds.{Kind}
use Rattle.charges.specs.Charges.{charge}
use Rattle.calculus.specs.Trails.{Levelled}
use Rattle.calculus.specs.States.{Best, State, restarted, most, clauses, clause}
use Rattle.calculus.specs.Learned.{most_rows}
use Rattle.calculus.specs.Calculus.{Asserts, Reasoned}
use Rattle.calculus.specs.Priority.{Next, Chain, conflicts_of}
use Rattle.calculus.specs.Steps.{closed, step}
use Rattle.calculus.specs.Runs.{run_steps, steps_made, verdict, cheapest, impossible}
use Rattle.calculus.specs.Books.{Book}

-- A choice sets all options, and keeps the pile's rules and the conditions of the book.
pub record Admitted (m : Sound) (b : Book) (c : List Bool) : Type 0 where
  pub whole : length c ≡ m.options
  pub kept : keeps_all (sets c) (m.rules ++ b.conditions) ≡ true

-- c is admitted, and its charge is not above that of any choice that is.
pub record Cheapest (K : Kind) (m : Sound) (b : Book) (c : List Bool) : Type 0 where
  pub admitted : Admitted m b c
  pub not_above : (d : List Bool) → Admitted m b d → K.not_above (charge K m (sets c)) (charge K m (sets d)) ≡ true

-- No search makes more steps than this between two zeroings of its counts.
abbrev pub enough : Sound → ℕ
enough m = 2 ^ m.options * (2 * m.options + 3)

-- What a run of budget b makes of the state s: a chain of steps, at most b, after which the search is closed or b are
-- made. They are counted, and so are the conflicts among them.
pub record RunOf (K : Kind) (m : Sound) (s : State K) (b : ℕ) (u : State K) : Type 0 where
  pub made : ℕ
  pub chain : Chain K m s made u
  pub as_told : made ≡ steps_made K m b s
  pub within : made ≤ b
  pub ends : (closed m u ≡ true) ⊎ (made ≡ b)
  pub counted : u.steps ≡ s.steps + made
  pub counted_conflicts : u.conflicts ≡ s.conflicts + conflicts_of chain

-- The counts are those of a chain of steps from a state with an empty trail, no conflict set and counts 0.
pub record SinceZeroing (K : Kind) (m : Sound) (s : State K) : Type 0 where
  pub best : Option (Best K)
  pub learned : List Literals
  pub chain : Chain K m (restarted s.conditions best learned) s.steps s
  pub counted_conflicts : s.conflicts ≡ conflicts_of chain

pub record Promises (K : Kind) (m : Sound) (s : State K) (b : Book) : Type 0 where
  -- The conditions in force are those of the book.
  pub conditions_stand : s.conditions ≡ b.conditions
  -- The verdict cheapest: the best is a cheapest of all choices that keep the pile's rules and the conditions.
  pub best_is_cheapest : verdict m s ≡ cheapest → (c : Best K) × (s.best ≡ some c) × Cheapest K m b c.choice
  -- The verdict impossible: there is no such choice.
  pub none_admitted : verdict m s ≡ impossible → (d : List Bool) → Admitted m b d → ⊥
  -- A closed search says impossible exactly when there is none.
  pub says_impossible : closed m s ≡ true → (verdict m s ≡ impossible) ↔ ((d : List Bool) → Admitted m b d → ⊥)
  -- A best, at any time, is such a choice, and stands with its charge.
  pub best_admitted : (c : Best K) → s.best ≡ some c → Admitted m b c.choice
  pub best_charged : (c : Best K) → s.best ≡ some c → c.charge ≡ charge K m (sets c.choice)
  -- At most 2 ^ n conflicts and 2 ^ n * (2 * n + 3) steps, below what the counts can hold.
  pub few_conflicts : s.conflicts ≤ 2 ^ m.options
  pub few_steps : s.steps ≤ enough m
  pub room_left : s.steps < most
  -- The search is closed once the granted budget reaches that product; until it is closed it has made all that was granted.
  pub closes : enough m ≤ b.granted → closed m s ≡ true
  pub spent : closed m s ≡ false → s.steps ≡ b.granted
  -- One run of the greatest budget closes it.
  pub one_run_closes : closed m (run_steps K m most s) ≡ true
  -- The counts are exactly the steps made since the last zeroing, and the conflicts among them.
  pub since_zeroing : SinceZeroing K m s
  -- Until the search is closed, some rule applies; and the step made is by the first that does.
  pub never_stuck : closed m s ≡ false → (t : State K) × Next K m s t
  pub steps_by_priority : (t : State K) → Next K m s t ↔ ((closed m s ≡ false) × (t ≡ step K m s))
  -- The next run, whatever its budget.
  pub runs : (n : ℕ) → RunOf K m s n (run_steps K m n s)
  -- Each literal of the trail has its level, and each forced one its reason, which no row dropped has taken away.
  pub levelled : Levelled s.trail
  pub reasoned : Reasoned m.options (clauses m s) s.trail
  pub few_learned : length s.learned ≤ most_rows
  -- What Backtrack learns is new: it is not the set of any rule in force or learned.
  pub learns_new : (D : Literals) (L i : ℕ) → s.conflict ≡ some D → Asserts m.options s.trail D L i → (j : ℕ) → j < length (clauses m s)
      → ((x : ℕ) → x < 2 * m.options → clause (clauses m s) j x ≡ D x) → ⊥
