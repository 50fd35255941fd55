-- The kind Sum: a number of 64 bits. The price is the amount, and sums stop at the greatest number.
use Rattle.std.specs.Prelude.{ℕ, ◌+◌, ◌-◌, ◌^◌, min, nat_le}
use Rattle.std.proofs.Common.{arith}
use Rattle.charges.specs.Kinds.{Kind, kind}
use Rattle.charges.specs.declared.kinds.Sum.{Sum}

-- The charge of a number; of one that is too great, that of the greatest number.
unfoldable pub sum_of : ℕ → Sum
sum_of n = record { value = min n (2 ^ 64 - 1); fits = omega arith }

abbrev pub sum_kind : Kind
sum_kind = kind Sum (sum_of 0) sum_of (λ a b. sum_of (min (a.value + b.value) (2 ^ 64 - 1))) (λ a b. nat_le a.value b.value)
