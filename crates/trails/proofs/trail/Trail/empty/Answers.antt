use Rattle.std.proofs.Common.{length, ap, ◌∙◌, arith}
use Rattle.cases.specs.Literals.{complement}
use Rattle.trails.specs.Entries.{trail_of}
use Rattle.trails.proofs.Entries.{trail_none}
use Rattle.trails.proofs.Held.{on_none, levelled_none, unset_none, not_false_none}
use Rattle.trails.proofs.trail.Trail.empty.Goals as goal

pub invariant_of-result : goal.invariant_of-result
invariant_of-result c =
    let none = c.empty-entries.ensures in
    record {
      low = omega (arith, ap length none);
      told = λ x. c.empty.ensures x ∙ on_none _ none x;
      opposed = λ x. c.empty-2.ensures x ∙ on_none _ none (complement x);
      levelled = levelled_none _ none;
      was_unset = unset_none _ none;
      was_not_false = not_false_none _ none;
    }

pub returns : goal.returns
returns c = ap trail_of c.empty-entries.ensures ∙ trail_none
