use Rattle.std.proofs.Common.{ℕ, ◌+◌, sym, ap, ◌∙◌, arith}
use mathlib.Core.Option as core
use Rattle.literals.specs.Members.{member}
use Rattle.tables.proofs.Facts.{length-rows}
use Rattle.rules.specs.Scans.{misses}
use Rattle.rules.proofs.Scans.{in_rules, in_rows, nowhere}
use Rattle.rules.proofs.force.Rules.first_missing.Goals as goal

pub overflow_add-result : goal.overflow_add-result
overflow_add-result g c = omega (arith, c.in_force.ensures.few, c.in_ok-j.ensures.0, length-rows c.args.self.now.learned.now)

pub returns-in-Some : goal.returns-in-Some
returns-in-Some g c =
    let w = c.in-Some.ensures in
    sym (in_rules c.args.self.now.force.now c.args.self.now.learned.now (misses (member c.args.set.now)) c.in-Some.r w.0 w.1 w.2)

pub returns-in_err-j : goal.returns-in_err-j
returns-in_err-j g c =
    rw c.from_residual.ensures
    (sym (nowhere c.args.self.now.force.now c.args.self.now.learned.now (misses (member c.args.set.now)) c.in_default.ensures c.in_err-j.ensures))

pub returns : goal.returns
returns g c =
    let w = c.in_ok-j.ensures in
    ap (λ (k : ℕ). core.some (k + c.in_ok-j.j)) c.in_force.ensures.answers
    ∙ sym (in_rows c.args.self.now.force.now c.args.self.now.learned.now (misses (member c.args.set.now)) c.in_ok-j.j w.0 c.in_default.ensures w.1 w.2)
