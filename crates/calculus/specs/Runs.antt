-- A run: steps until the search is closed or the budget is made; and the verdict.
use Rattle.std.specs.Prelude.{ℕ, zero, suc, Bool, true, false}
use Rattle.std.proofs.Math.Option.{Option, none, some}
use Rattle.cases.specs.Meanings.{Sound}
use Rattle.charges.specs.Kinds.{Kind}
use Rattle.calculus.specs.States.{Best, State}
use Rattle.calculus.specs.Steps.{closed, step}

unfoldable pub run_steps : (K : Kind) → Sound → ℕ → State K → State K
run_steps K m zero s = s
run_steps K m (suc b) s = elim (closed m s) [ true ↦ s | false ↦ run_steps K m b (step K m s) ]

-- How many steps that makes.
unfoldable pub steps_made : (K : Kind) → Sound → ℕ → State K → ℕ
steps_made K m zero s = 0
steps_made K m (suc b) s = elim (closed m s) [ true ↦ 0 | false ↦ suc (steps_made K m b (step K m s)) ]

-- Not closed, closed with a best, closed without.
pub data Verdict : Type 0 where
  open_yet cheapest impossible : Verdict

unfoldable pub by_best : {K : Kind} → Option (Best K) → Verdict
by_best none = impossible
by_best (some b) = cheapest

unfoldable pub verdict_if : {K : Kind} → Bool → Option (Best K) → Verdict
verdict_if false b = open_yet
verdict_if true b = by_best b

unfoldable pub verdict : {K : Kind} → Sound → State K → Verdict
verdict m s = verdict_if (closed m s) s.best
