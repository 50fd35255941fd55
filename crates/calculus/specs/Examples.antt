-- Worked examples: what calls on small piles answer, one after another.
use Rattle.std.specs.Prelude.{◌≡◌, ℕ, ◌-◌, ◌^◌, Bool, true, false, List, [], ◌∷◌, ◌++◌, replicate}
use Rattle.cases.specs.Meanings.{Meaning, oversize, sound}
use Rattle.cases.specs.declared.refusal.Refusal.TheVariants.{Oversize, Full, NothingToWithdraw, NoBest, TooLong, NoSuchLiteral, ShortBuffer}
use Rattle.cases.specs.Limits.{Limited}
use Rattle.charges.specs.Kinds.{Kind}
use Rattle.charges.specs.SumKind.{sum_kind, sum_of}
use Rattle.charges.specs.WorstKind.{worst_kind, worst_of}
use Rattle.calculus.specs.States.{fresh}
use Rattle.calculus.specs.Runs.{open_yet, cheapest, impossible}
use Rattle.calculus.specs.Calls.{Call, add, withdraw, run, read, tally, Answer, accepted, refused, ran, shown, counts}
use Rattle.calculus.specs.Piles.{answers_on}

-- These calls on a new search over the pile, in this kind, are answered so.
pub record Row : Type 1 where
  pub kind : Kind
  pub pile : Meaning
  pub calls : List Call
  pub answers : List (Answer kind)

pub record RowHolds (r : Row) : Type 0 where
  -- so that the promises speak of it
  pub within_limits : Limited r.pile
  pub answered : answers_on r.kind r.pile fresh r.calls ≡ r.answers

abbrev pub RowsHold : List Row → Type 0
RowsHold [] = Unit {0}
RowsHold (r ∷ rs) = RowHolds r × RowsHold rs

-- The greatest budget.
abbrev pub all_steps : ℕ
all_steps = 2 ^ 64 - 1

-- Two options, with amounts for on and off of each, and a rule: one of them is on.
abbrev pub pair : Meaning
pair = sound (record { options = 2; amounts = 8 ∷ 1 ∷ 2 ∷ 3 ∷ []; rules = (0 ∷ 2 ∷ []) ∷ [] })

abbrev pub off_on : List Bool
off_on = false ∷ true ∷ []

abbrev pub on_off : List Bool
on_off = true ∷ false ∷ []

abbrev pub rows : List Row
rows =
    -- a run; a condition that the best breaks; its withdrawal
    record {
      kind = sum_kind;
      pile = pair;
      calls = run all_steps ∷ read 2 ∷ tally ∷ add (3 ∷ []) ∷ read 2 ∷ run all_steps ∷ read 2 ∷ withdraw ∷ read 2 ∷ run all_steps ∷ read 2 ∷ [];
      answers =
          ran 8 cheapest ∷ shown off_on (sum_of 3) ∷ counts 2 8
          ∷ accepted ∷ refused NoBest ∷ ran 6 cheapest ∷ shown on_off (sum_of 11)
          ∷ accepted ∷ shown on_off (sum_of 11) ∷ ran 8 cheapest ∷ shown off_on (sum_of 3) ∷ [];
    }
    -- the same, where the dearest literal is charged
    ∷ record { kind = worst_kind; pile = pair; calls = run all_steps ∷ read 2 ∷ tally ∷ []; answers = ran 8 cheapest ∷ shown off_on (worst_of 2) ∷ counts 2 8 ∷ [] }
    -- a budget that does not suffice, and the rest; a condition that the best keeps
    ∷ record {
      kind = sum_kind;
      pile = pair;
      calls = run 3 ∷ run 5 ∷ run 5 ∷ add (0 ∷ 2 ∷ []) ∷ tally ∷ read 2 ∷ run all_steps ∷ [];
      answers = ran 3 open_yet ∷ ran 5 cheapest ∷ ran 0 cheapest ∷ accepted ∷ counts 0 0 ∷ shown off_on (sum_of 3) ∷ ran 3 cheapest ∷ [];
    }
    -- a rule learned from a best that goes must go with it: it would forbid the cheapest choice that is left
    ∷ record {
      kind = sum_kind;
      pile = sound (record { options = 2; amounts = 1 ∷ 0 ∷ 0 ∷ 0 ∷ []; rules = [] });
      calls = run all_steps ∷ read 2 ∷ add (2 ∷ []) ∷ run all_steps ∷ read 2 ∷ [];
      answers = ran 10 cheapest ∷ shown (false ∷ false ∷ []) (sum_of 0) ∷ accepted ∷ ran 8 cheapest ∷ shown off_on (sum_of 0) ∷ [];
    }
    -- two conditions that nothing keeps together
    ∷ record { kind = sum_kind; pile = pair; calls = add (1 ∷ []) ∷ add (3 ∷ []) ∷ run all_steps ∷ tally ∷ []; answers = accepted ∷ accepted ∷ ran 5 impossible ∷ counts 1 5 ∷ [] }
    -- refusals
    ∷ record {
      kind = sum_kind;
      pile = pair;
      calls = withdraw ∷ add (4 ∷ []) ∷ add (replicate 17 4) ∷ add (replicate 16 2) ∷ read 0 ∷ run all_steps ∷ read 1 ∷ read 2 ∷ [];
      answers = refused NothingToWithdraw ∷ refused NoSuchLiteral ∷ refused TooLong ∷ accepted ∷ refused NoBest ∷ ran 8 cheapest ∷ refused ShortBuffer ∷ shown off_on (sum_of 3) ∷ [];
    }
    ∷ record {
      kind = sum_kind;
      pile = pair;
      calls = replicate 32 (add (2 ∷ [])) ++ (add (2 ∷ []) ∷ add (4 ∷ []) ∷ run all_steps ∷ []);
      answers = replicate 32 accepted ++ (refused Full ∷ refused NoSuchLiteral ∷ ran 8 cheapest ∷ []);
    }
    ∷ record {
      kind = sum_kind;
      pile = oversize;
      calls = run 1 ∷ add [] ∷ withdraw ∷ read 0 ∷ tally ∷ [];
      answers = refused Oversize ∷ refused Oversize ∷ refused Oversize ∷ refused Oversize ∷ refused Oversize ∷ [];
    }
    -- no options and no rule, and with an empty rule
    ∷ record {
      kind = sum_kind;
      pile = sound (record { options = 0; amounts = []; rules = [] });
      calls = run all_steps ∷ read 0 ∷ tally ∷ [];
      answers = ran 2 cheapest ∷ shown [] (sum_of 0) ∷ counts 1 2 ∷ [];
    }
    ∷ record {
      kind = sum_kind;
      pile = sound (record { options = 0; amounts = []; rules = [] ∷ [] });
      calls = run all_steps ∷ read 0 ∷ tally ∷ [];
      answers = ran 1 impossible ∷ refused NoBest ∷ counts 1 1 ∷ [];
    }
    -- one option that is free, and a rule that has its literal twice
    ∷ record {
      kind = sum_kind;
      pile = sound (record { options = 1; amounts = 0 ∷ 0 ∷ []; rules = (0 ∷ 0 ∷ []) ∷ [] });
      calls = run all_steps ∷ read 1 ∷ tally ∷ [];
      answers = ran 4 cheapest ∷ shown (true ∷ []) (sum_of 0) ∷ counts 1 4 ∷ [];
    }
    ∷ []

abbrev pub AllRows : Type 0
AllRows = RowsHold rows
