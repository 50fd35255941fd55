use Rattle.std.proofs.Common.{ℕ, ◌<◌, List, length, refl, sym, refl, ap, ◌∙◌, arith, take_all}
use Rattle.cases.specs.Literals.{members}
use Rattle.rules.specs.Force.{rule}
use Rattle.cases.proofs.Tests.{members_none}
use Rattle.rules.proofs.Clauses.{members_more, small_here}
use Rattle.rules.proofs.force.Force.rule_set.Goals as goal

pub loop-j-init : goal.loop-j-init
loop-j-init g c x = c.empty-set.ensures x ∙ sym (members_none x)

pub loop-j-preserved : goal.loop-j-preserved
loop-j-preserved g c x =
    let r = rule c.args.self.now c.args.r in
    let literal = c.rule_literal.ensures in
    let h : c.loop-j.j < length r = omega (arith, c.rule_len-j-end.ensures) in
    rw (members_more r c.loop-j.j x h, c.insert.ensures x, small_here x c.rule_literal.result (literal.small h), ← literal.answers, c.loop-j.invariant x) refl

pub returns : goal.returns
returns g c x =
    let r = rule c.args.self.now c.args.r in
    c.loop-j.invariant x ∙ ap (λ (y : List ℕ). members y x) (take_all c.loop-j.j r (omega (arith, c.rule_len-j-end.ensures)))
