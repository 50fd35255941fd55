use Rattle.std.proofs.Common.{◌≡◌, ℕ, ◌*◌, ◌≤◌, Bool, true, false, not, ◌&&◌, eqb, ltb, refl, ap, ◌∙◌, arith}
use Rattle.std.proofs.lemmas.Bool.{lt-ltb, le-ltb}
use Rattle.cases.specs.Literals.{complement}
use Rattle.charges.specs.Charges.{contents}
use Rattle.charges.proofs.Contents.{contents_options}
use Rattle.calculus.specs.Trails.{level_of}
use Rattle.calculus.specs.Steps.{others}
use Rattle.literals.specs.Members.{member}
use Rattle.trails.specs.Trails.{listed}
use Rattle.steps.proofs.Narrowed.{greatest_narrow}
use Rattle.steps.proofs.backward.level_below.Goals as goal

drop_true : (a b : Bool) → (not a && (b && true)) ≡ (b && not a)
drop_true true true = refl
drop_true true false = refl
drop_true false true = refl
drop_true false false = refl

drop_false : (a b : Bool) → (not a && (b && false)) ≡ false
drop_false true true = refl
drop_false true false = refl
drop_false false true = refl
drop_false false false = refl

pub returns : goal.returns
unfolding others
returns g c =
    let p = g.P.Case.meaning c.args.pile.now in
    let n2 = 2 * (contents p).options in
    let few : n2 ≤ 128 = omega (arith, contents_options p, (g.met.P.Case.limits c.args.pile.now).few_options) in
    let D = member c.args.set.now in
    let l = c.args.literal in
    let rest : (x : ℕ) → member c.remove.new.self x ≡ (not (eqb x l) && (D x && ltb x n2)) =
    λ x. c.remove.ensures x ∙ ap (λ (b : Bool). not (eqb x l) && b) (c.meet-rest.ensures x ∙ ap (λ (b : Bool). D x && b) (c.all_literals.ensures x)) in
    c.greatest_level.ensures
    ∙ greatest_narrow n2 (member c.remove.new.self) (others D l) few
    (λ x h. rest x ∙ ap (λ (b : Bool). not (eqb x l) && (D x && b)) (lt-ltb x n2 h) ∙ drop_true (eqb x l) (D x))
    (λ x h. rest x ∙ ap (λ (b : Bool). not (eqb x l) && (D x && b)) (le-ltb x n2 h) ∙ drop_false (eqb x l) (D x))
    (λ x. level_of (listed c.args.trail.now) (complement x))
