use Rattle.std.proofs.Common.{length, sym, ap, ◌∙◌, arith}
use Rattle.rules.proofs.Clauses.{rule_pile, rule_condition}
use Rattle.rules.proofs.force.Force.rule_len.Goals as goal

pub returns-then-r-base : goal.returns-then-r-base
returns-then-r-base g c =
    let p = g.P.Case.meaning c.self.inside.pile.now in
    let cs = c.self.inside.conditions.now in
    rw (← c.self.view_is) (c.rule_len.ensures ∙ ap length (sym (rule_pile p cs c.args.r (omega (arith, c.rules-base.ensures, c.if-r-base.true)))))

pub returns-else-r-base : goal.returns-else-r-base
returns-else-r-base g c =
    let p = g.P.Case.meaning c.self.inside.pile.now in
    let cs = c.self.inside.conditions.now in
    let rule = rule_condition p cs c.args.r (omega (arith, c.rules-base.ensures, c.if-r-base.false)) in
    rw (← c.self.view_is) (rw (rule, ← c.rules-base.ensures) c.rule_len-else-r-base.ensures)
