-- The meaning of a case, and the six questions.
use Rattle.std.specs.Prelude.{ℕ, Bool, true, false, List, [], length, slice_index, slice_index_or}

-- A sound case: how many options it has, the amount of each literal in order, and its rules, each a list of literals.
pub record Sound : Type 0 where
  pub options : ℕ
  pub amounts : List ℕ
  pub rules : List (List ℕ)

-- A case means that, or that it is oversize.
pub data Meaning : Type 0 where
  oversize : Meaning
  sound : Sound → Meaning

abbrev pub is_oversize : Meaning → Bool
is_oversize oversize = true
is_oversize (sound s) = false

-- An oversize case tells no options, no rules and no amounts.
abbrev pub options_of : Meaning → ℕ
options_of oversize = 0
options_of (sound s) = s.options

abbrev pub rules_of : Meaning → List (List ℕ)
rules_of oversize = []
rules_of (sound s) = s.rules

abbrev pub amounts_of : Meaning → List ℕ
amounts_of oversize = []
amounts_of (sound s) = s.amounts

-- Outside the ranges a length is 0, a literal 255 and an amount 0.
abbrev pub rule_length : Meaning → ℕ → ℕ
rule_length m r = length (slice_index_or (rules_of m) r [])

abbrev pub literal_at : Meaning → ℕ → ℕ → ℕ
literal_at m r j = slice_index_or (slice_index_or (rules_of m) r []) j 255

abbrev pub amount_of : Meaning → ℕ → ℕ
amount_of m l = slice_index (amounts_of m) l
