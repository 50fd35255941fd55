-- The group layer: of each group of options no two are on.
use Rattle.std.specs.Prelude.{ℕ, zero, suc, ◌+◌, max, Bool, true, not, ◌&&◌, ◌||◌, List, [], ◌∷◌, ◌++◌, map, length, Result, nat_le, nat_lt}
use Rattle.cases.specs.declared.refusal.Refusal.{Refusal}
use Rattle.cases.specs.declared.refusal.Refusal.TheVariants.{Oversize, WrongGroupSize, NoSuchLiteral, NotRising, Full, TooLarge}
use Rattle.cases.specs.Meanings.{Meaning, Sound, is_oversize, options_of, rules_of}
use Rattle.cases.specs.Limits.{most_rules}
use Rattle.layers.specs.Checks.{unless_refused}
use Rattle.layers.specs.Layered.{Room, layered}
use Rattle.layers.specs.Apart.{not_together}
use Rattle.layers.specs.Rows.{past_all}

-- Each number is below the next.
abbrev pub rising : List ℕ → Bool
rising [] = true
rising (a ∷ []) = true
rising (a ∷ b ∷ xs) = nat_lt a b && rising (b ∷ xs)

-- For each pair of a group's options, by the first of the two, then the second.
abbrev pub pair_rules : List ℕ → List (List ℕ)
pair_rules [] = []
pair_rules (a ∷ bs) = map (not_together a) bs ++ pair_rules bs

-- How many pairs there are among n things.
abbrev pub pairs_among : ℕ → ℕ
pairs_among zero = 0
pairs_among (suc n) = n + pairs_among n

abbrev pub group_rules : List (List ℕ) → List (List ℕ)
group_rules [] = []
group_rules (g ∷ gs) = pair_rules g ++ group_rules gs

-- One past the largest option of a group.
abbrev pub group_reach : List (List ℕ) → ℕ
group_reach [] = 0
group_reach (g ∷ gs) = max (past_all g) (group_reach gs)

abbrev pub group_sound : List (List ℕ) → Sound → Sound
group_sound gs s = record { options = s.options; amounts = s.amounts; rules = s.rules ++ group_rules gs }

-- Whether so many pairs stay within the limits, and groups of such a reach have their options below.
abbrev pub groups_fit : ℕ → ℕ → Room
groups_fit pairs reach n k = nat_le (k + pairs) most_rules && nat_le reach n

abbrev pub group_room : List (List ℕ) → Room
group_room gs n k = groups_fit (length (group_rules gs)) (group_reach gs) n k

abbrev pub grouped : List (List ℕ) → Meaning → Meaning
grouped gs m = layered (group_room gs) (group_sound gs) m

-- What can be wrong with a group that is added, in the order of the checks.
abbrev pub group_faults : List (List ℕ) → Meaning → List ℕ → List (Bool × Refusal)
group_faults gs m g =
    (is_oversize (grouped gs m), Oversize)
    ∷ (nat_lt (length g) 2 || nat_lt 8 (length g), WrongGroupSize)
    ∷ (nat_lt (options_of m) (past_all g), NoSuchLiteral)
    ∷ (not (rising g), NotRising)
    ∷ (nat_le 4 (length gs), Full)
    ∷ (nat_lt most_rules (length (rules_of (grouped gs m)) + length (pair_rules g)), TooLarge)
    ∷ []

abbrev pub group_check : List (List ℕ) → Meaning → List ℕ → Result (Unit {0}) Refusal
group_check gs m g = unless_refused (group_faults gs m g) tt
