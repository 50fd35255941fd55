-- What is proved of the open layer, in the subject's words.
use Rattle.std.specs.Prelude.{◌≡◌, ℕ, ◌*◌, Bool, true, List, length}
use Rattle.cases.specs.Literals.{Literals}
use Rattle.cases.specs.Choices.{sets, keeps_all, Partial}
use Rattle.cases.specs.Meanings.{Meaning, options_of, rules_of}
use Rattle.layers.specs.Opens.{opened}
use Rattle.layers.specs.Readings.{read_down, settings, set_by}

-- A choice that keeps the rules of the open layer reads down to a partial choice that keeps the rules below, and each such
-- partial choice is read down from one. The settings that are written set exactly its literals.
pub record ReadsDown (m : Meaning) : Type 0 where
  pub reads : (c : List Bool) → keeps_all (sets c) (rules_of (opened m)) ≡ true
      → Partial (options_of m) (read_down (options_of m) c) × (keeps_all (read_down (options_of m) c) (rules_of m) ≡ true)
  pub is_read : (S : Literals) → Partial (options_of m) S → keeps_all S (rules_of m) ≡ true
      → (c : List Bool) × (length c ≡ 2 * options_of m) × (keeps_all (sets c) (rules_of (opened m)) ≡ true) × ((l : ℕ) → read_down (options_of m) c l ≡ S l)
  pub written : (S : Literals) → Partial (options_of m) S → (l : ℕ) → set_by (settings (options_of m) S) l ≡ S l
