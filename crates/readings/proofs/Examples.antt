-- Every row of the worked examples holds, by computing.
use Rattle.std.proofs.Common.{ℕ, zero, suc, ◌^◌, ◌<◌, ◌≤◌, length, get_or, refl, arith}
use Rattle.cases.specs.Literals.{complement, members}
use Rattle.cases.specs.Choices.{sets, keeps}
use Rattle.charges.specs.Charges.{price_of, charge_below, charge, contents}
use Rattle.charges.specs.SumKind.{sum_of}
use Rattle.calculus.specs.Scans.{any, first, count, greatest, later, place, remove}
use Rattle.calculus.specs.Trails.{on, unset, opened, level, level_of, cut}
use Rattle.calculus.specs.States.{fresh, restarted, up, in_force, clauses, clause}
use Rattle.calculus.specs.Learned.{is_place, is_reason, leaving, moved, renamed}
use Rattle.calculus.specs.Changes.{conflicted, complements, choice_of, best_of, improved, pushed, decision, popped, resolved, backtracked}
use Rattle.calculus.specs.Steps.{alive, is_false, is_unit, best_not_above, at_level, can_backtrack, others, extend, extend_in, complete, compare_best, forward, unwind, back, backward, by_conflict, empty_set, closed, step}
use Rattle.calculus.specs.Runs.{run_steps, steps_made, by_best, verdict_if, verdict}
use Rattle.calculus.specs.Checks.{exist, all_exist}
use Rattle.calculus.specs.Calls.{call, reads, answer}
use Rattle.calculus.specs.Piles.{answers_on, call_on, answer_on}
use Rattle.calculus.proofs.Limits.{within, all_below, limited_by}
use Rattle.charges.specs.RankedKind.{ranked_of}
use Rattle.layers.specs.Readings.{read_down}
use Rattle.wishes.specs.Facts.Wishes.{HeldWishes, no_wish}
use Rattle.readings.specs.Examples.{small, wishes, AllRows}

held : HeldWishes wishes
held = record { short = short; small = cheap }
  where
    short : (i : ℕ) → length (get_or wishes i no_wish).literals ≤ 16
    short zero = omega arith
    short (suc i) = omega arith

    cheap : (i : ℕ) → (get_or wishes i no_wish).amount < 2 ^ 32
    cheap zero = omega arith
    cheap (suc i) = omega arith

pub all_rows : AllRows
unfolding complement members sets keeps sum_of price_of charge_below charge any first count greatest later place remove on unset opened level level_of cut restarted fresh up in_force clauses clause is_place is_reason leaving moved renamed conflicted complements choice_of best_of improved pushed decision popped resolved backtracked alive is_false is_unit best_not_above at_level can_backtrack others extend extend_in complete compare_best forward unwind back backward by_conflict empty_set closed step run_steps steps_made by_best verdict_if verdict exist call reads answer call_on answer_on answers_on within all_below all_exist ranked_of read_down
all_rows = record {
  within_limits = limited_by (contents small) refl;
  wishes_held = held;
  rows_hold = (refl, (refl, (refl, (refl, (refl, (refl, (refl, (refl, (refl, (refl, (refl, tt)))))))))));
}
