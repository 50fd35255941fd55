use Rattle.std.proofs.Common.{ℕ, zero, suc, ◌<◌, List, [], ◌∷◌, length, get_or, arith}

-- a rule that has a literal is there
pub in_range : (rs : List (List ℕ)) (r j : ℕ) → j < length (get_or rs r []) → r < length rs
in_range [] r j h = absurd (omega arith)
in_range (x ∷ rs) zero j h = omega arith
in_range (x ∷ rs) (suc r) j h = omega (arith, in_range rs r j h)
