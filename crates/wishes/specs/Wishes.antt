-- The wish layer: wish i adds option n + i, which says that it is broken.
use Rattle.std.specs.Prelude.{ℕ, ◌+◌, ◌*◌, max, Bool, ◌&&◌, ◌||◌, List, [], ◌∷◌, ◌++◌, length, Result, nat_le, nat_lt}
use Rattle.cases.specs.declared.refusal.Refusal.{Refusal}
use Rattle.cases.specs.declared.refusal.Refusal.TheVariants.{Oversize, TooLong, NoSuchLiteral, Full, TooLarge}
use Rattle.cases.specs.Meanings.{Meaning, Sound, is_oversize, options_of, rules_of}
use Rattle.cases.specs.Limits.{most_options, most_rules}
use Rattle.layers.specs.Checks.{unless_refused}
use Rattle.layers.specs.Layered.{Room, layered}
use Rattle.layers.specs.Rows.{past_all}

-- A rule that may be broken, and the amount that this costs.
pub record Wish : Type 0 where
  pub literals : List ℕ
  pub amount : ℕ

abbrev pub wish_for : List ℕ → ℕ → Wish
wish_for literals amount = record { literals = literals; amount = amount }

-- One past the largest literal of a wish.
abbrev pub wish_reach : List Wish → ℕ
wish_reach [] = 0
wish_reach (w ∷ ws) = max (past_all w.literals) (wish_reach ws)

-- The first wish is kept, or option v says that it is broken; and so on.
abbrev pub wish_rules : ℕ → List Wish → List (List ℕ)
wish_rules v [] = []
wish_rules v (w ∷ ws) = (w.literals ++ (2 * v) ∷ []) ∷ wish_rules (v + 1) ws

-- A broken wish costs its amount, and one that is kept costs nothing.
abbrev pub wish_amounts : List Wish → List ℕ
wish_amounts [] = []
wish_amounts (w ∷ ws) = w.amount ∷ 0 ∷ wish_amounts ws

abbrev pub wish_sound : List Wish → Sound → Sound
wish_sound ws s = record {
  options = s.options + length ws;
  amounts = s.amounts ++ wish_amounts ws;
  rules = s.rules ++ wish_rules s.options ws;
}

-- Whether so many wishes of such a reach have their literals below, and stay within the limits.
abbrev pub wishes_fit : ℕ → ℕ → Room
wishes_fit held reach n k = nat_le (n + held) most_options && (nat_le (k + held) most_rules && nat_le reach (2 * n))

abbrev pub wish_room : List Wish → Room
wish_room ws n k = wishes_fit (length ws) (wish_reach ws) n k

abbrev pub wishing : List Wish → Meaning → Meaning
wishing ws m = layered (wish_room ws) (wish_sound ws) m

-- What can be wrong with a wish that is added, in the order of the checks.
abbrev pub wish_faults : List Wish → Meaning → List ℕ → List (Bool × Refusal)
wish_faults ws m xs =
    (is_oversize (wishing ws m), Oversize)
    ∷ (nat_lt 16 (length xs), TooLong)
    ∷ (nat_lt (2 * options_of m) (past_all xs), NoSuchLiteral)
    ∷ (nat_le 8 (length ws), Full)
    ∷ (nat_le most_options (options_of m + length ws) || nat_le most_rules (length (rules_of m) + length ws), TooLarge)
    ∷ []

abbrev pub wish_check : List Wish → Meaning → List ℕ → Result (Unit {0}) Refusal
wish_check ws m xs = unless_refused (wish_faults ws m xs) tt
