-- The kind Ranked: two numbers of 32 bits, guarantees lost and pence.
use Rattle.std.specs.Prelude.{ℕ, ◌+◌, ◌-◌, ◌/◌, ◌%◌, ◌^◌, min, Bool, cond, ◌&&◌, ◌||◌, ◌==◌, nat_le, nat_lt}
use Rattle.std.proofs.Common.{arith}
use Rattle.charges.specs.Kinds.{Kind, kind}
use Rattle.charges.specs.declared.kinds.Ranked.{Ranked}

-- The charge of two numbers; for one that is too great, the greatest number.
unfoldable pub ranked_of : ℕ → ℕ → Ranked
ranked_of l p = record { lost = min l (2 ^ 32 - 1); pence = min p (2 ^ 32 - 1); lost_fits = omega arith; pence_fits = omega arith }

-- The top 8 bits of an amount are guarantees lost, its low 24 bits are pence.
abbrev pub ranked_price : ℕ → Ranked
ranked_price a = ranked_of (a / 2 ^ 24) (a % 2 ^ 24)

-- Where the guarantees lost pass the greatest number, both parts become that number; otherwise the pence stop there.
abbrev pub ranked_sum : Ranked → Ranked → Ranked
ranked_sum a b =
    cond (nat_le (a.lost + b.lost) (2 ^ 32 - 1)) (ranked_of (a.lost + b.lost) (min (a.pence + b.pence) (2 ^ 32 - 1))) (ranked_of (2 ^ 32 - 1) (2 ^ 32 - 1))

-- The guarantees lost decide, and where they are equal the pence.
abbrev pub ranked_not_above : Ranked → Ranked → Bool
ranked_not_above a b = nat_lt a.lost b.lost || (a.lost == b.lost && nat_le a.pence b.pence)

abbrev pub ranked_kind : Kind
ranked_kind = kind Ranked (ranked_of 0 0) ranked_price ranked_sum ranked_not_above
