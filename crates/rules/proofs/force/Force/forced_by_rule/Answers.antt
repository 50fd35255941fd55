use Rattle.std.proofs.Common.{◌≡◌, ◌<◌, ◌≤◌, get_or, sym, refl, ◌∙◌, ⊎_elim}
use Rattle.std.proofs.lemmas.Bool.{both_ways, cases_lt}
use Rattle.literals.specs.Members.{member}
use Rattle.rules.specs.Force.{rule}
use Rattle.rules.proofs.Scans.{rule_none, rule_settled, rule_two, rule_one}
use Rattle.rules.proofs.force.Force.forced_by_rule.Goals as goal

pub returns-in_err-j : goal.returns-in_err-j
returns-in_err-j g c =
    let r = rule c.args.self.now c.args.r in
    rw c.from_residual.ensures (rule_none (member c.args.set.now) r (member c.args.settled.now) c.in_err-j.ensures)

pub returns-then-has : goal.returns-then-has
returns-then-has g c =
    let S = member c.args.set.now in
    let R = member c.args.settled.now in
    let r = rule c.args.self.now c.args.r in
    let w = c.in_ok-j.ensures in
    let same = c.rule_literal-l.ensures.answers in
    rule_settled S r R c.in_ok-j.j w.0 (rw (← same) (c.rule_literal-l.ensures.small w.0)) w.2 (rw (← same, ← c.if-has.ensures) refl)

pub returns-then-has_other : goal.returns-then-has_other
returns-then-has_other g c =
    let S = member c.args.set.now in
    let R = member c.args.settled.now in
    let r = rule c.args.self.now c.args.r in
    let w = c.in_ok-j.ensures in
    let o = c.if-has_other.ensures in
    let same = c.rule_literal-l.ensures.answers in
    rule_two S r R c.in_ok-j.j o.0 w.0 o.1 (rw (← same) (c.rule_literal-l.ensures.small w.0)) o.2 w.2 o.3 (λ e. o.4 (sym e ∙ sym same))

pub returns : goal.returns
returns g c =
    let S = member c.args.set.now in
    let R = member c.args.settled.now in
    let r = rule c.args.self.now c.args.r in
    let w = c.in_ok-j.ensures in
    let o = c.if-has_other.ensures in
    let j = c.in_ok-j.j in
    let same : c.rule_literal-l.result ≡ get_or r j 255 = c.rule_literal-l.ensures.answers in
    let small = c.rule_literal-l.ensures.small w.0 in
    let one =
    rule_one S r R j w.0 (rw (← same) small) w.2 (rw (← same, ← c.if-has.ensures) refl)
    (λ i h s. ⊎_elim (λ (k : i < j). absurd (both_ways (S (get_or r i 255)) (w.1 i k) s)) (λ (k : j ≤ i). o i k h s ∙ same) (cases_lt i j)) in
    (one.0, same ∙ one.1, small)
