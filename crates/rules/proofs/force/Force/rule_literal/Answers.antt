use Rattle.std.proofs.Common.{arith}
use Rattle.rules.proofs.Clauses.{rule_pile, rule_condition}
use Rattle.rules.proofs.force.Force.rule_literal.Goals as goal

pub returns-then-r-base : goal.returns-then-r-base
returns-then-r-base g c =
    let pile = c.self.inside.pile.now in
    let limits = g.met.P.Case.limits pile in
    let rule = rule_pile (g.P.Case.meaning pile) c.self.inside.conditions.now c.args.r (omega (arith, c.rules-base.ensures, c.if-r-base.true)) in
    rw (← c.self.view_is, rule)
    record {
      answers = c.literal.ensures;
      small = λ h. omega (arith, c.literal.ensures, limits.literals_exist c.args.r c.args.j h, limits.few_options);
    }

pub returns-else-r-base : goal.returns-else-r-base
returns-else-r-base g c =
    let p = g.P.Case.meaning c.self.inside.pile.now in
    let rule = rule_condition p c.self.inside.conditions.now c.args.r (omega (arith, c.rules-base.ensures, c.if-r-base.false)) in
    rw (← c.self.view_is, rule, ← c.rules-base.ensures) c.literal-else-r-base.ensures
