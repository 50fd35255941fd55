-- What a choice of a layer reads down to.
use Rattle.std.specs.Prelude.{ℕ, ◌+◌, ◌*◌, ◌/◌, ◌%◌, Bool, true, false, cond, ◌&&◌, List, [], ◌∷◌, ◌==◌, nat_lt, slice_index_or}
use Rattle.cases.specs.declared.refusal.Refusal.{Refusal}
use Rattle.cases.specs.declared.refusal.Refusal.TheVariants.{Oversize, ShortBuffer}
use Rattle.cases.specs.Counted.{counted}
use Rattle.cases.specs.Literals.{Literals}
use Rattle.cases.specs.Meanings.{Meaning, is_oversize, options_of}
use Rattle.layers.specs.declared.setting.Setting.{Setting}
use Rattle.layers.specs.declared.setting.Setting.TheVariants.{On, Off, Open}

-- An option past the end of a choice is off.
abbrev pub is_on : List Bool → ℕ → Bool
is_on c v = slice_index_or c v false

-- A choice of the wish layer reads down to its first n options.
abbrev pub first_options : ℕ → List Bool → List Bool
first_options n c = counted (is_on c) n

-- A choice of the open layer reads down to the literals of the n options below whose marks are on.
unfoldable pub read_down : ℕ → List Bool → Literals
read_down n c l = nat_lt l (2 * n) && is_on c l

-- How a set of literals sets option v.
abbrev pub setting_in : Literals → ℕ → Setting
setting_in S v = cond (S (2 * v)) On (cond (S (2 * v + 1)) Off Open)

abbrev pub settings : ℕ → Literals → List Setting
settings n S = counted (setting_in S) n

-- The literals that a list of settings sets.
abbrev pub is_set_on : Setting → Bool
is_set_on On = true
is_set_on Off = false
is_set_on Open = false

abbrev pub is_set_off : Setting → Bool
is_set_off On = false
is_set_off Off = true
is_set_off Open = false

unfoldable pub set_by : List Setting → Literals
set_by ss l = cond (l % 2 == 0) (is_set_on (slice_index_or ss (l / 2) Open)) (is_set_off (slice_index_or ss (l / 2) Open))

-- What can be wrong with reading down from a layer that means t over one that means m, into a buffer of so many places.
abbrev pub read_faults : Meaning → Meaning → ℕ → List (Bool × Refusal)
read_faults t m places = (is_oversize t, Oversize) ∷ (nat_lt places (options_of m), ShortBuffer) ∷ []
