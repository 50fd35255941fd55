-- How large a case may be, which literals its rules may have, and what it answers outside its ranges.
use Rattle.std.specs.Prelude.{◌≡◌, ℕ, ◌*◌, ◌^◌, ◌<◌, ◌≤◌, true, length}
use Rattle.cases.specs.Meanings.{Meaning, is_oversize, options_of, rules_of, amounts_of, rule_length, literal_at, amount_of}

abbrev pub most_options : ℕ
most_options = 56

abbrev pub most_rules : ℕ
most_rules = 512

abbrev pub longest_rule : ℕ
longest_rule = 24

-- What every case keeps.
pub record Limited (m : Meaning) : Type 0 where
  pub few_options : options_of m ≤ most_options
  pub few_rules : length (rules_of m) ≤ most_rules
  pub short_rules : (r : ℕ) → rule_length m r ≤ longest_rule
  pub literals_exist : (r j : ℕ) → j < rule_length m r → literal_at m r j < 2 * options_of m
  pub amount_each : length (amounts_of m) ≡ 2 * options_of m
  pub small_amounts : (l : ℕ) → amount_of m l < 2 ^ 32

-- What every case therefore answers outside its ranges.
pub record Outside (m : Meaning) : Type 0 where
  pub no_rule : (r : ℕ) → length (rules_of m) ≤ r → rule_length m r ≡ 0
  pub no_place : (r j : ℕ) → rule_length m r ≤ j → literal_at m r j ≡ 255
  pub no_literal : (l : ℕ) → 2 * options_of m ≤ l → amount_of m l ≡ 0
  pub nothing_told : is_oversize m ≡ true → (options_of m ≡ 0) × (length (rules_of m) ≡ 0)
