-- The kind that code over any kind of charge speaks of.
use Rattle.charges.specs.Kinds.{Kind, kind}
use Rattle.charges.specs.declared.charge.Charge.{Ghosts}

-- Under a bound `K: Charge` the kind is `kind_of K.Charge`, and the trait's law says that it is lawful.
abbrev pub kind_of : {C : Type 0} → Ghosts C → Kind
kind_of {C} k = kind C k.zero k.price k.sum k.not_above
