-- What the verdict of a search over a layer says of the case below, when no condition stands.
use Rattle.std.specs.Prelude.{◌≡◌, Bool, true, false, List, [], length}
use Rattle.std.proofs.Math.Option.{some}
use Rattle.cases.specs.Literals.{Literals}
use Rattle.cases.specs.Choices.{sets, keeps_all, Partial}
use Rattle.cases.specs.Meanings.{Meaning, is_oversize, options_of, rules_of}
use Rattle.cases.specs.Limits.{Limited}
use Rattle.charges.specs.Kinds.{Kind}
use Rattle.charges.specs.Charges.{contents, charge}
use Rattle.calculus.specs.States.{Best, State}
use Rattle.calculus.specs.Runs.{verdict, cheapest, impossible}
use Rattle.calculus.specs.Calls.{Call}
use Rattle.calculus.specs.Piles.{after, book}
use Rattle.layers.specs.Opens.{opened}
use Rattle.layers.specs.Readings.{read_down, first_options}
use Rattle.wishes.specs.Wishes.{Wish, wishing}
use Rattle.wishes.specs.Facts.Wishes.{HeldWishes}
use Rattle.piles.specs.Charged.{broken_prices}

-- x fits, and what it costs is not above what any other costs that fits.
pub record Least (K : Kind) {X : Type 0} (Fits : X → Type 0) (cost : X → K.charges) (x : X) : Type 0 where
  pub fits : Fits x
  pub not_above : (y : X) → Fits y → K.not_above (cost x) (cost y) ≡ true

-- What the verdict on the pile t says of what the choices of t read down to.
pub record SaysBelow (K : Kind) (t : Meaning) (s : State K) {X : Type 0} (down : List Bool → X) (Fits : X → Type 0) (cost : X → K.charges) : Type 0 where
  -- The verdict cheapest: there is a best, and what it reads down to fits and is charged not above any other that fits.
  pub best_is_cheapest : verdict (contents t) s ≡ cheapest → (c : Best K) × (s.best ≡ some c) × Least K Fits cost (down c.choice)
  -- The verdict impossible: nothing fits.
  pub none_fits : verdict (contents t) s ≡ impossible → (x : X) → Fits x → ⊥

-- A partial choice of the case's options, which may leave some open, that keeps the case's rules.
pub record PartialKept (m : Meaning) (S : Literals) : Type 0 where
  pub partial : Partial (options_of m) S
  pub kept : keeps_all S (rules_of m) ≡ true

-- A choice of all of the case's options that keeps the case's rules.
pub record ChoiceKept (m : Meaning) (d : List Bool) : Type 0 where
  pub whole : length d ≡ options_of m
  pub kept : keeps_all (sets d) (rules_of m) ≡ true

-- The charge of a choice below with the prices of the wishes that it breaks.
abbrev pub wish_charge : (K : Kind) → Meaning → List Wish → List Bool → K.charges
wish_charge K m ws d = K.sum (charge K (contents m) (sets d)) (broken_prices K (sets d) ws)

-- Over an open layer that is not oversize, after any calls that leave no condition: the best reads down to a partial
-- choice that keeps the rules below, and no such partial choice is charged less.
abbrev pub OpenReadsDown : Kind → Type 0
OpenReadsDown K =
    (m : Meaning) → Limited m → is_oversize (opened m) ≡ false → (cs : List Call) → (book (opened m) cs).conditions ≡ []
    → SaysBelow K (opened m) (after K (opened m) cs) (read_down (options_of m)) (PartialKept m) (charge K (contents m))

-- Over a wish layer that is not oversize, likewise: the first options of the best are a choice that keeps the rules
-- below, and no such choice is charged less, each with the prices of the wishes that it breaks.
abbrev pub WishReadsDown : Kind → Type 0
WishReadsDown K =
    (m : Meaning) → Limited m → (ws : List Wish) → HeldWishes ws → is_oversize (wishing ws m) ≡ false → (cs : List Call) → (book (wishing ws m) cs).conditions ≡ []
    → SaysBelow K (wishing ws m) (after K (wishing ws m) cs) (first_options (options_of m)) (ChoiceKept m) (wish_charge K m ws)
