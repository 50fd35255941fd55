-- Worked examples: searches over layers, and what their choices read down to.
use Rattle.std.specs.Prelude.{◌≡◌, ◌-◌, ◌^◌, true, false, List, [], ◌∷◌}
use Rattle.cases.specs.Meanings.{Meaning, sound, is_oversize, rules_of}
use Rattle.cases.specs.Limits.{Limited}
use Rattle.cases.specs.Ladders.{ladder_meaning}
use Rattle.charges.specs.Kinds.{Kind}
use Rattle.charges.specs.SumKind.{sum_kind, sum_of}
use Rattle.charges.specs.WorstKind.{worst_kind, worst_of}
use Rattle.charges.specs.RankedKind.{ranked_kind}
use Rattle.calculus.specs.States.{fresh}
use Rattle.calculus.specs.Runs.{cheapest}
use Rattle.calculus.specs.Calls.{run, read, tally, Answer, ran, shown, counts}
use Rattle.calculus.specs.Piles.{answers_on}
use Rattle.layers.specs.declared.setting.Setting.TheVariants.{On, Open}
use Rattle.layers.specs.Tariffs.{tariffed}
use Rattle.layers.specs.Opens.{opened}
use Rattle.layers.specs.Readings.{read_down, settings, first_options}
use Rattle.wishes.specs.Wishes.{Wish, wish_for, wishing}
use Rattle.wishes.specs.Facts.Wishes.{HeldWishes}

-- What is found is what is told.
pub record Row : Type 1 where
  pub values : Type 0
  pub found : values
  pub told : values

abbrev pub row : {X : Type 0} → X → X → Row
row {X} found told = record { values = X; found = found; told = told }

abbrev pub RowsHold : List Row → Type 0
RowsHold [] = Unit {0}
RowsHold (r ∷ rs) = (r.found ≡ r.told) × RowsHold rs

-- Two options, with amounts for on and off of each, and a rule: one of them is on.
abbrev pub small : Meaning
small = sound (record { options = 2; amounts = 5 ∷ 1 ∷ 2 ∷ 3 ∷ []; rules = (0 ∷ 2 ∷ []) ∷ [] })

-- A wish that option 1 is off, which costs 10 to break.
abbrev pub wishes : List Wish
wishes = wish_for (3 ∷ []) 10 ∷ []

-- What a new search over the pile answers to a run of the greatest budget, to a read and to a tally.
abbrev pub solved : (K : Kind) → Meaning → List (Answer K)
solved K p = answers_on K p fresh (run (2 ^ 64 - 1) ∷ read 56 ∷ tally ∷ [])

abbrev pub rows : List Row
rows =
    -- the tariff over it, where charges add up and where the dearest literal is the charge
    row (solved sum_kind (tariffed small)) (ran 8 cheapest ∷ shown (false ∷ true ∷ []) (sum_of 3) ∷ counts 2 8 ∷ [])
    ∷ row (solved worst_kind (tariffed small)) (ran 8 cheapest ∷ shown (false ∷ true ∷ []) (worst_of 2) ∷ counts 2 8 ∷ [])
    -- over it the open layer: of its four marks the third is on, which reads down to option 0 open and option 1 on
    ∷ row (is_oversize (opened (tariffed small))) false
    ∷ row (solved sum_kind (opened (tariffed small))) (ran 14 cheapest ∷ shown (false ∷ false ∷ true ∷ false ∷ []) (sum_of 2) ∷ counts 3 14 ∷ [])
    ∷ row (settings 2 (read_down 2 (false ∷ false ∷ true ∷ false ∷ []))) (Open ∷ On ∷ [])
    -- and the wish layer: the wish is kept, since the choice that breaks it costs 13
    ∷ row (is_oversize (wishing wishes (tariffed small))) false
    ∷ row (solved sum_kind (wishing wishes (tariffed small))) (ran 21 cheapest ∷ shown (true ∷ false ∷ false ∷ []) (sum_of 11) ∷ counts 4 21 ∷ [])
    ∷ row (first_options 2 (true ∷ false ∷ false ∷ [])) (true ∷ false ∷ [])
    -- twice 16777215 pence is below one guarantee lost and 3 pence
    ∷ row (ranked_kind.not_above (ranked_kind.sum (ranked_kind.price 16777215) (ranked_kind.price 16777215)) (ranked_kind.price 16777219)) true
    ∷ row (ranked_kind.not_above (ranked_kind.price 16777219) (ranked_kind.sum (ranked_kind.price 16777215) (ranked_kind.price 16777215))) false
    -- the ladder of 3
    ∷ row (rules_of (ladder_meaning 3 1 2)) ((3 ∷ 0 ∷ []) ∷ (5 ∷ 2 ∷ []) ∷ [])
    ∷ []

pub record AllRows : Type 0 where
  -- so that the theorems speak of the layers over it
  pub within_limits : Limited small
  pub wishes_held : HeldWishes wishes
  pub rows_hold : RowsHold rows
