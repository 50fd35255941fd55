use Rattle.std.proofs.Common.{◌≡◌, ◌<◌, false, length, get_or, refl, arith, below_more}
use Rattle.cases.specs.Literals.{members}
use Rattle.literals.specs.Members.{member}
use Rattle.rules.specs.Force.{rule}
use Rattle.rules.specs.Scans.{misses}
use Rattle.rules.proofs.Scans.{rule_meets, rule_misses}
use Rattle.rules.proofs.force.Force.missing_rule.Goals as goal

pub rules-preserved : goal.rules-preserved
rules-preserved g c =
    let f = c.args.self.now in
    let S = member c.args.set.now in
    let literal = c.rule_literal.ensures in
    let h : c.loop-j.j < length (rule f c.rules.r) = omega (arith, c.rule_len-j-end.ensures) in
    below_more (λ q. misses S (members (rule f q)) ≡ false) c.rules.r c.rules.invariant
    (rule_meets S (rule f c.rules.r) c.loop-j.j h (rw (← literal.answers) (literal.small h)) (rw (← literal.answers, ← c.if-has.ensures) refl))

pub loop-j-preserved : goal.loop-j-preserved
loop-j-preserved g c =
    below_more (λ q. member c.args.set.now (get_or (rule c.args.self.now c.rules.r) q 255) ≡ false) c.loop-j.j c.loop-j.invariant
    (rw (← c.rule_literal.ensures.answers, ← c.if-has.ensures) refl)

pub returns-in-rules : goal.returns-in-rules
returns-in-rules g c =
    let none = rule_misses (member c.args.set.now) (rule c.args.self.now c.rules.r) (λ q l. c.loop-j.invariant q (omega (arith, c.rule_len-j-end.ensures))) in
    (omega (arith, c.in_force-r-end.ensures.answers), c.rules.invariant, none)

pub returns : goal.returns
returns g c = λ q l. c.rules.invariant q (omega (arith, c.in_force-r-end.ensures.answers))
