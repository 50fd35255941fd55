-- What is proved of the group layer, in the subject's words.
use Rattle.std.specs.Prelude.{◌≡◌, ℕ, ◌<◌, Bool, true, List, [], length, ◌≢◌, slice_index, slice_index_or}
use Rattle.cases.specs.Choices.{sets, keeps_all}
use Rattle.cases.specs.Meanings.{Meaning, rules_of}
use Rattle.layers.specs.Readings.{is_on}
use Rattle.groups.specs.Groups.{grouped}

-- No two options of a group are on.
abbrev pub NoTwoOn : List Bool → List ℕ → Type 0
NoTwoOn c g = (i j : ℕ) → i < j → j < length g → is_on c (slice_index g i) ≡ true → is_on c (slice_index g j) ≢ true

-- A choice keeps the rules of the group layer exactly if it keeps those below and sets no two options of a group on.
pub record GroupsHold (gs : List (List ℕ)) (m : Meaning) : Type 0 where
  pub kept : (c : List Bool) → keeps_all (sets c) (rules_of (grouped gs m)) ≡ true
      → (keeps_all (sets c) (rules_of m) ≡ true) × ((i : ℕ) → i < length gs → NoTwoOn c (slice_index_or gs i []))
  pub keeps : (c : List Bool) → keeps_all (sets c) (rules_of m) ≡ true → ((i : ℕ) → i < length gs → NoTwoOn c (slice_index_or gs i [])) → keeps_all (sets c) (rules_of (grouped gs m)) ≡ true
