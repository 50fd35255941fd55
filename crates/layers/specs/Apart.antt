-- The rule that two options are not both on.
use Rattle.std.specs.Prelude.{ℕ, ◌+◌, ◌*◌, List, [], ◌∷◌}

-- Option a is off, or option b is.
abbrev pub not_together : ℕ → ℕ → List ℕ
not_together a b = (2 * a + 1) ∷ (2 * b + 1) ∷ []
