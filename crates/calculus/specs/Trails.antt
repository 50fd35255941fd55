-- The trail: the literals that are set, each with its level and its reason.
use Rattle.std.specs.Prelude.{◌≡◌, ℕ, suc, ◌+◌, ◌*◌, Bool, false, cond, not, ◌&&◌, ◌||◌, List, [], ◌∷◌, ◌==◌, nat_le}
use Rattle.cases.specs.Literals.{Literals}

-- A literal is decided, or forced by a rule: its place among the rules in force and then the learned ones.
pub data Reason : Type 0 where
  decided : Reason
  forced : ℕ → Reason

pub record Entry : Type 0 where
  pub literal : ℕ
  pub level : ℕ
  pub reason : Reason

-- The newest entry stands first.
abbrev pub Trail : Type 0
Trail = List Entry

-- The literals that the trail sets.
unfoldable pub on : Trail → Literals
on [] x = false
on (e ∷ t) x = e.literal == x || on t x

-- An option that the trail leaves unset.
unfoldable pub unset : Trail → ℕ → Bool
unset t v = not (on t (2 * v)) && not (on t (2 * v + 1))

unfoldable pub opened : Reason → ℕ → ℕ
opened decided k = suc k
opened (forced i) k = k

-- The level k: the number of decided literals on the trail.
unfoldable pub level : Trail → ℕ
level [] = 0
level (e ∷ t) = opened e.reason (level t)

-- The level of a literal that the trail sets.
unfoldable pub level_of : Trail → ℕ → ℕ
level_of [] x = 0
level_of (e ∷ t) x = cond (e.literal == x) e.level (level_of t x)

-- Levels above i leave the trail.
unfoldable pub cut : ℕ → Trail → Trail
cut i [] = []
cut i (e ∷ t) = cond (nat_le e.level i) (e ∷ t) (cut i t)

-- The level of each literal is the number of literals decided up to it.
abbrev pub Levelled : Trail → Type 0
Levelled [] = Unit {0}
Levelled (e ∷ t) = (e.level ≡ level (e ∷ t)) × Levelled t
