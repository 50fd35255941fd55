-- Checks in their order.
use Rattle.std.specs.Prelude.{Bool, cond, List, [], ◌∷◌, Ok, Err, Result}
use Rattle.cases.specs.declared.refusal.Refusal.{Refusal}

-- The refusal of the first fault that there is, else the answer x.
abbrev pub unless_refused : {X : Type 0} → List (Bool × Refusal) → X → Result X Refusal
unless_refused [] x = Ok x
unless_refused (fault ∷ faults) x = cond fault.0 (Err fault.1) (unless_refused faults x)
