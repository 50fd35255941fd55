use Rattle.std.proofs.Common.{◌≡◌, ℕ, eqb}
use Rattle.std.specs.List.{list_any}
use Rattle.cases.specs.Literals.{complement}
use Rattle.literals.specs.Members.{member}
use Rattle.trails.proofs.trail.Trail.top_complements.Given as goal

abbrev pub invariant-loop-e : goal.invariant-loop-e
invariant-loop-e l = (x : ℕ) → member l.set x ≡ list_any (λ e. eqb e.now.literal (complement x)) l.yielded
