-- The kind Worst: a number of 32 bits. The price is the amount, and the sum of two charges is the greater one.
use Rattle.std.specs.Prelude.{ℕ, max, nat_le}
use Rattle.charges.specs.Kinds.{Kind, kind}
use Rattle.charges.specs.declared.kinds.Worst.{Worst}

abbrev pub worst_of : ℕ → Worst
worst_of n = record { value = n }

abbrev pub worst_kind : Kind
worst_kind = kind Worst (worst_of 0) worst_of (λ a b. worst_of (max a.value b.value)) (λ a b. nat_le a.value b.value)
