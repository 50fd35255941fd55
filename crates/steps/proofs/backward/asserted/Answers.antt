use Rattle.std.proofs.Common.{◌≡◌, ℕ, ◌*◌, ◌≤◌, Bool, ◌&&◌, eqb, ltb, Some, None, Option, sym, ap, ◌∙◌, ap₂, arith, MatchOption}
use Rattle.cases.specs.Literals.{Literals, complement}
use Rattle.charges.specs.Charges.{contents}
use Rattle.charges.proofs.Contents.{contents_options}
use Rattle.calculus.specs.Trails.{Trail, on, level, level_of}
use Rattle.literals.specs.declared.LiteralSet.{LiteralSet}
use Rattle.literals.specs.Members.{member, OnlyOne}
use Rattle.trails.specs.Trails.{listed}
use Rattle.steps.specs.Shapes.{Asserted}
use Rattle.steps.proofs.Narrowed.{one_asserted, none_asserted, no_level}
use Rattle.steps.proofs.Places.{level_of_unset}
use Rattle.steps.proofs.backward.asserted.Goals as goal

pub returns-then-level-eq0 : goal.returns-then-level-eq0
returns-then-level-eq0 g c =
    no_level (contents (g.P.Case.meaning c.args.pile.now)).options (listed c.args.trail.now) (member c.args.set.now) (sym c.level.ensures.answers ∙ c.if-level-eq0.true)

-- the answer, by whether there is just one
told : (n : ℕ) (t : Trail) (D : Literals) (s : LiteralSet) → 2 * n ≤ 128 → 1 ≤ level t
    → ((x : ℕ) → member s x ≡ (((on t (complement x) && eqb (level_of t (complement x)) (level t)) && D x) && ltb x (2 * n)))
    → (o : Option ℕ) → MatchOption o ((l : ℕ) → OnlyOne s l → ⊥) (λ l. OnlyOne s l) → Asserted n t D o
told n t D s few pos top None h =
    none_asserted n t D (member s) few pos top (λ x. level_of_unset t (complement x)) (λ l lit one. h l (record { is_literal = lit; is_alone = one }))
told n t D s few pos top (Some l) h =
    one_asserted n t D (member s) few pos top (λ x. level_of_unset t (complement x)) l h.is_literal h.is_alone

pub returns : goal.returns
returns g c =
    let p = g.P.Case.meaning c.args.pile.now in
    let n = (contents p).options in
    let t = listed c.args.trail.now in
    let D = member c.args.set.now in
    told n t D c.meet-2.result (omega (arith, contents_options p, (g.met.P.Case.limits c.args.pile.now).few_options)) (omega (arith, c.level.ensures.answers, c.if-level-eq0.false))
    (λ x. c.meet-2.ensures x ∙ ap₂ (λ (a b : Bool). a && b) (c.meet.ensures x ∙ ap (λ (b : Bool). b && D x) (c.top_complements.ensures x)) (c.all_literals.ensures x))
    c.only.result c.only.ensures
