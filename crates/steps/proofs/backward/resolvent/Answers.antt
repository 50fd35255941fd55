use Rattle.std.proofs.Common.{ℕ, Bool, not, ◌&&◌, ◌||◌, eqb, ap, ◌∙◌, ap₂}
use Rattle.std.proofs.Math.Bool.{and_comm}
use Rattle.cases.specs.Literals.{complement}
use Rattle.calculus.specs.Changes.{resolved}
use Rattle.calculus.specs.States.{clause}
use Rattle.literals.specs.Members.{member}
use Rattle.rules.specs.Force.{all_clauses}
use Rattle.steps.proofs.backward.resolvent.Goals as goal

pub returns : goal.returns
unfolding resolved
returns g c x =
    let D = member c.args.set.now in
    let l = c.args.literal in
    let C = clause (all_clauses c.args.rules.now.force.now c.args.rules.now.learned.now) c.args.place in
    c.union.ensures x
    ∙ ap₂ (λ (a b : Bool). a || b)
    (c.remove.ensures x ∙ ap (λ (k : ℕ). not (eqb x k) && D x) c.opposite.ensures ∙ and_comm (not (eqb x (complement l))) (D x))
    (c.remove-2.ensures x ∙ ap (λ (b : Bool). not (eqb x l) && b) (c.clause-reason.ensures x) ∙ and_comm (not (eqb x l)) (C x))
