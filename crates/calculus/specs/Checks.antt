-- The checks of a condition and of a withdrawal, from pile, argument and conditions.
use Rattle.std.specs.Prelude.{ℕ, ◌*◌, Bool, true, cond, not, ◌&&◌, List, [], ◌∷◌, length, nat_le, nat_lt}
use Rattle.std.proofs.Math.Option.{Option, none, some}
use Rattle.cases.specs.Meanings.{Sound}
use Rattle.cases.specs.declared.refusal.Refusal.{Refusal}
use Rattle.cases.specs.declared.refusal.Refusal.TheVariants.{Full, NothingToWithdraw, TooLong, NoSuchLiteral}

-- A search holds at most 32 conditions, of at most 16 literals each.
abbrev pub most_conditions : ℕ
most_conditions = 32

abbrev pub longest_condition : ℕ
longest_condition = 16

-- Every literal is one of n options.
unfoldable pub exist : ℕ → List ℕ → Bool
exist n [] = true
exist n (l ∷ r) = nat_lt l (2 * n) && exist n r

unfoldable pub all_exist : ℕ → List (List ℕ) → Bool
all_exist n [] = true
all_exist n (r ∷ rs) = exist n r && all_exist n rs

-- The first refusal that applies, if one does.
unfoldable pub add_check : Sound → List (List ℕ) → List ℕ → Option Refusal
add_check m conditions r =
    cond (nat_lt longest_condition (length r)) (some TooLong)
    (cond (not (exist m.options r)) (some NoSuchLiteral) (cond (nat_le most_conditions (length conditions)) (some Full) none))

unfoldable pub withdraw_check : List (List ℕ) → Option Refusal
withdraw_check [] = some NothingToWithdraw
withdraw_check (r ∷ rs) = none

-- A call that is refused leaves all as it was.
unfoldable pub if_accepted : {A : Type 0} → Option Refusal → A → A → A
if_accepted none new old = new
if_accepted (some e) new old = old
