-- What passed all checks has none of the faults.
use Rattle.std.proofs.Common.{◌≡◌, Bool, true, false, cond, List, [], ◌∷◌, Ok, Err, Result, refl}
use Rattle.std.specs.List.{AllByRecursion}
use Rattle.cases.specs.declared.refusal.Refusal.{Refusal}
use Rattle.layers.specs.Checks.{unless_refused}

module _ {X : Type 0} where
  past_first : (b : Bool) (e : Refusal) (x : X) (r : Result X Refusal) → Ok x ≡ cond b (Err e) r → (b ≡ false) × (Ok x ≡ r)
  past_first true e x r h = cc
  past_first false e x r h = (refl, h)

  pub no_fault : (faults : List (Bool × Refusal)) (x y : X) → Ok x ≡ unless_refused faults y → AllByRecursion (λ fault. fault.0 ≡ false) faults
  no_fault [] x y h = tt
  no_fault (fault ∷ faults) x y h = let p = past_first fault.0 fault.1 x (unless_refused faults y) h in (p.0, no_fault faults x y p.1)
