-- Every row of the worked examples holds, by computing.
use Rattle.std.proofs.Common.{◌≡◌, refl}
use Rattle.cases.specs.Literals.{complement, members}
use Rattle.cases.specs.Choices.{sets, keeps}
use Rattle.cases.specs.Limits.{Limited}
use Rattle.cases.specs.Facts.Limits.{limited_oversize}
use Rattle.charges.specs.Charges.{price_of, charge_below, charge, contents}
use Rattle.charges.specs.SumKind.{sum_of}
use Rattle.calculus.specs.Scans.{any, first, count, greatest, later, place, remove, all_but_last}
use Rattle.calculus.specs.Trails.{on, unset, opened, level, level_of, cut}
use Rattle.calculus.specs.States.{fresh, restarted, up, in_force, clauses, clause}
use Rattle.calculus.specs.Learned.{is_place, is_reason, leaving, moved, renamed}
use Rattle.calculus.specs.Changes.{conflicted, complements, choice_of, best_of, improved, pushed, decision, popped, resolved, backtracked}
use Rattle.calculus.specs.Steps.{alive, is_false, is_unit, best_not_above, at_level, can_backtrack, others, extend, extend_in, complete, compare_best, forward, unwind, back, backward, by_conflict, empty_set, closed, step}
use Rattle.calculus.specs.Runs.{run_steps, steps_made, by_best, verdict_if, verdict}
use Rattle.calculus.specs.Checks.{exist, add_check, withdraw_check, if_accepted, all_exist}
use Rattle.calculus.specs.Calls.{breaks, added, withdrawn, call, checked, reads, answer}
use Rattle.calculus.specs.Piles.{answers_on, call_on, answer_on}
use Rattle.calculus.specs.Examples.{Row, RowHolds, AllRows, pair}
use Rattle.calculus.proofs.Limits.{within, all_below, limited_by}

holds : {r : Row} → Limited r.pile → answers_on r.kind r.pile fresh r.calls ≡ r.answers → RowHolds r
holds limited answered = record { within_limits = limited; answered = answered }

pub all_rows : AllRows
unfolding complement members sets keeps sum_of price_of charge_below charge any first count greatest later place remove all_but_last on unset opened level level_of cut restarted fresh up in_force clauses clause is_place is_reason leaving moved renamed conflicted complements choice_of best_of improved pushed decision popped resolved backtracked alive is_false is_unit best_not_above at_level can_backtrack others extend extend_in complete compare_best forward unwind back backward by_conflict empty_set closed step run_steps steps_made by_best verdict_if verdict exist add_check withdraw_check if_accepted breaks added withdrawn call checked reads answer call_on answer_on answers_on within all_below all_exist
all_rows =
    let pair_within = limited_by (contents pair) refl in
    (holds pair_within refl, (holds pair_within refl, (holds pair_within refl, (holds (limited_by _ refl) refl, (holds pair_within refl, (holds pair_within refl, (holds pair_within refl, (holds limited_oversize refl, (holds (limited_by _ refl) refl, (holds (limited_by _ refl) refl, (holds (limited_by _ refl) refl, tt)))))))))))
