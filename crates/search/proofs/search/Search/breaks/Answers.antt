use Rattle.std.proofs.Common.{◌≡◌, ℕ, ◌≤◌, Bool, true, false, not, List, Some, None, Option, is_some, sym, refl, ap, ◌∙◌, arith}
use Rattle.cases.specs.Literals.{Literals}
use Rattle.cases.specs.Choices.{sets, keeps}
use Rattle.charges.specs.Kinds.{Kind}
use Rattle.charges.specs.Generic.{kind_of}
use Rattle.charges.specs.Charges.{contents}
use Rattle.charges.proofs.Contents.{contents_options}
use Rattle.calculus.specs.Changes.{choice_of}
use Rattle.calculus.specs.Calls.{breaks}
use Rattle.literals.specs.Members.{member}
use Rattle.steps.specs.States.{best_seen}
use Rattle.search.proofs.search.Search.breaks.Goals as goal

module _ (K : Kind) (n : ℕ) (S : Literals) (rule : List ℕ) where
  by_some : (o : Option K.charges) → is_some o ≡ true → breaks (best_seen K n o S) rule ≡ not (keeps (sets (choice_of n S)) rule)
  unfolding breaks
  by_some None h = absurd (cc)
  by_some (Some k) h = refl

  by_none : (o : Option K.charges) → is_some o ≡ false → breaks (best_seen K n o S) rule ≡ false
  unfolding breaks
  by_none None h = refl
  by_none (Some k) h = absurd (cc)

pub returns-then-is_some : goal.returns-then-is_some
returns-then-is_some g c =
    let K = kind_of g.K.Charge in
    let p = g.P.Case.meaning c.args.self.now.pile in
    let n = (contents p).options in
    let S = member c.args.self.now.tables.work.choice in
    let rule = c.args.literals.now in
    let k = c.options-n.result in
    let same : k ≡ n = c.options-n.ensures ∙ sym (contents_options p) in
    let few : k ≤ 56 = omega (arith, c.options-n.ensures, (g.met.P.Case.limits c.args.self.now.pile).few_options) in
    let choice = c.chosen-choice.ensures.first k few ∙ ap (λ (i : ℕ). choice_of i S) same in
    ap not (c.sets_one.ensures ∙ ap (λ (x : List Bool). keeps (sets x) rule) choice) ∙ sym (by_some K n S rule c.args.self.now.best (sym c.if-is_some.ensures))

pub returns-else-is_some : goal.returns-else-is_some
returns-else-is_some g c =
    let K = kind_of g.K.Charge in
    let p = g.P.Case.meaning c.args.self.now.pile in
    c.if-is_some.false ∙ sym (by_none K (contents p).options (member c.args.self.now.tables.work.choice) c.args.literals.now c.args.self.now.best (sym c.is_some.ensures ∙ c.if-is_some.false))
