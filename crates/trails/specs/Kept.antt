-- What every trail keeps. Each fact has one proof at most, as a ghost field asks.
use Rattle.std.specs.Prelude.{◌≡◌, false, [], ◌∷◌}
use Prim.{IsProp}
use mathlib.Core.Bool.{Bool-set}
use mathlib.Core.HLevel.{×_prop, Unit-prop}
use native.Mathlib.Nat.{ℕ_set}
use Rattle.cases.specs.Literals.{complement}
use Rattle.calculus.specs.Trails.{Trail, on, Levelled}

-- No literal was on the trail already when it joined ..
abbrev pub WasUnset : Trail → Type 0
WasUnset [] = Unit {0}
WasUnset (e ∷ t) = (on t e.literal ≡ false) × WasUnset t

-- .. and neither was its complement.
abbrev pub WasNotFalse : Trail → Type 0
WasNotFalse [] = Unit {0}
WasNotFalse (e ∷ t) = (on t (complement e.literal) ≡ false) × WasNotFalse t

pub Levelled-prop : (t : Trail) → IsProp (Levelled t)
Levelled-prop [] = Unit-prop
Levelled-prop (e ∷ t) = ×_prop (ℕ_set _ _) (Levelled-prop t)

pub WasUnset-prop : (t : Trail) → IsProp (WasUnset t)
WasUnset-prop [] = Unit-prop
WasUnset-prop (e ∷ t) = ×_prop (Bool-set _ _) (WasUnset-prop t)

pub WasNotFalse-prop : (t : Trail) → IsProp (WasNotFalse t)
WasNotFalse-prop [] = Unit-prop
WasNotFalse-prop (e ∷ t) = ×_prop (Bool-set _ _) (WasNotFalse-prop t)
