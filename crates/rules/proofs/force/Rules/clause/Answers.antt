use Rattle.std.proofs.Common.{arith}
use Rattle.rules.proofs.Clauses.{clause_rule, clause_row}
use Rattle.rules.proofs.force.Rules.clause.Goals as goal

pub returns-then-place-count : goal.returns-then-place-count
returns-then-place-count g c x =
    rw (clause_rule c.args.self.now.force.now c.args.self.now.learned.now c.args.place (omega (arith, c.in_force-count.ensures.answers, c.if-place-count.true))) (c.rule_set.ensures x)

pub returns-else-place-count : goal.returns-else-place-count
returns-else-place-count g c x =
    let count = c.in_force-count.ensures.answers in
    rw (clause_row c.args.self.now.force.now c.args.self.now.learned.now c.args.place (omega (arith, count, c.if-place-count.false)), ← count) (c.row.ensures x)
