use Rattle.std.proofs.Common.{arith}
use Rattle.rules.proofs.Clauses.{rules_are}
use Rattle.rules.proofs.force.Force.in_force.Goals as goal

pub returns : goal.returns
returns g c =
    let pile = c.self.inside.pile.now in
    rw (← c.self.view_is)
    record {
      answers = omega (arith, c.rules.ensures, c.len.ensures, rules_are (g.P.Case.meaning pile) c.self.inside.conditions.now);
      few = omega (arith, c.rules.ensures, c.len.ensures, (g.met.P.Case.limits pile).few_rules);
    }
