-- The ladder case: s options in a row, each with the same two amounts, where one that is on asks for the one before it.
use Rattle.std.specs.Prelude.{ℕ, ◌+◌, ◌-◌, ◌*◌, ◌%◌, cond, List, [], ◌∷◌, ◌==◌, nat_le}
use Rattle.cases.specs.Meanings.{Meaning, Sound, oversize, sound}
use Rattle.cases.specs.Limits.{most_options}
use Rattle.cases.specs.Counted.{counted}

-- A literal that sets an option on has amount p, one that sets it off q.
abbrev pub ladder_amount : ℕ → ℕ → ℕ → ℕ
ladder_amount p q l = cond (l % 2 == 0) p q

-- Rule j: option j + 1 is off, or option j is on.
abbrev pub ladder_rule : ℕ → List ℕ
ladder_rule j = (2 * (j + 1) + 1) ∷ (2 * j) ∷ []

abbrev pub ladder_sound : ℕ → ℕ → ℕ → Sound
ladder_sound s p q = record { options = s; amounts = counted (ladder_amount p q) (2 * s); rules = counted ladder_rule (s - 1) }

abbrev pub ladder_meaning : ℕ → ℕ → ℕ → Meaning
ladder_meaning s p q = cond (nat_le s most_options) (sound (ladder_sound s p q)) oversize
