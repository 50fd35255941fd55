-- A run, one step after another, counting up to its budget.
use Rattle.std.proofs.Common.{◌≡◌, ℕ, suc, ◌+◌, ◌-◌, ◌<◌, ◌≤◌, false, sym, ap, ◌∙◌, arith}
use Rattle.cases.specs.Meanings.{Sound}
use Rattle.charges.specs.Kinds.{Kind}
use Rattle.calculus.specs.States.{State}
use Rattle.calculus.specs.Steps.{closed, step}
use Rattle.calculus.specs.Runs.{run_steps, steps_made}
use Rattle.calculus.proofs.Calls.{run_open, made_open}

module _ (K : Kind) (m : Sound) (b k : ℕ) (s : State K) where
  pub run_more : (t : State K) → k < b → closed m s ≡ false → t ≡ step K m s → run_steps K m (b - k) s ≡ run_steps K m (b - (k + 1)) t
  run_more t l h e =
      let n : b - k ≡ suc (b - (k + 1)) = omega arith in
      ap (λ (j : ℕ). run_steps K m j s) n ∙ run_open K m (b - (k + 1)) s h ∙ ap (run_steps K m (b - (k + 1))) (sym e)

  pub made_more : (t : State K) → k < b → closed m s ≡ false → t ≡ step K m s → k + steps_made K m (b - k) s ≡ (k + 1) + steps_made K m (b - (k + 1)) t
  made_more t l h e =
      let n : b - k ≡ suc (b - (k + 1)) = omega arith in
      let one : steps_made K m (b - k) s ≡ suc (steps_made K m (b - (k + 1)) t) =
      ap (λ (j : ℕ). steps_made K m j s) n ∙ made_open K m (b - (k + 1)) s h ∙ ap (λ (z : State K). suc (steps_made K m (b - (k + 1)) z)) (sym e) in
      omega arith

  pub run_done : b ≤ k → run_steps K m (b - k) s ≡ s
  unfolding run_steps
  run_done h = let e : b - k ≡ 0 = omega arith in ap (λ (j : ℕ). run_steps K m j s) e

  pub made_done : b ≤ k → steps_made K m (b - k) s ≡ 0
  unfolding steps_made
  made_done h = let e : b - k ≡ 0 = omega arith in ap (λ (j : ℕ). steps_made K m j s) e
