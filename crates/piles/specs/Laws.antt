-- What is proved of all layers, in the subject's words.
use Rattle.std.specs.Prelude.{◌≡◌, ℕ, List, length}
use Rattle.cases.specs.Meanings.{Meaning, is_oversize, options_of, rules_of, rule_length, literal_at, amount_of}
use Rattle.layers.specs.Tariffs.{tariffed}
use Rattle.layers.specs.Opens.{opened}
use Rattle.groups.specs.Groups.{grouped}
use Rattle.wishes.specs.Wishes.{Wish, wishing}

-- Two cases answer all six questions alike.
pub record Alike (m t : Meaning) : Type 0 where
  pub oversize : is_oversize m ≡ is_oversize t
  pub options : options_of m ≡ options_of t
  pub rules : length (rules_of m) ≡ length (rules_of t)
  pub lengths : (r : ℕ) → rule_length m r ≡ rule_length t r
  pub literals : (r j : ℕ) → literal_at m r j ≡ literal_at t r j
  pub amounts : (l : ℕ) → amount_of m l ≡ amount_of t l

-- And so does every layer over them.
pub record LayersAlike (m t : Meaning) : Type 0 where
  pub tariffs : Alike (tariffed m) (tariffed t)
  pub groups : (gs : List (List ℕ)) → Alike (grouped gs m) (grouped gs t)
  pub wishes : (ws : List Wish) → Alike (wishing ws m) (wishing ws t)
  pub opens : Alike (opened m) (opened t)
