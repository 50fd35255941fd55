use Rattle.std.proofs.Common.{◌≡◌, rules, ltb, length, ap, ◌∙◌, arith}
use borrow.Author.Tests.{tests}
use Rattle.calculus.specs.Trails.{cut}
use Rattle.literals.proofs.Options.{at_value}
use Rattle.trails.proofs.Entries.{cut_goes_on, cut_stops, shorter}
use Rattle.trails.proofs.trail.Trail.cut.Goals as goal

pub loop-level-preserved : goal.loop-level-preserved
loop-level-preserved c =
    let i = c.args.level in
    ap (cut i) c.pop.ensures ∙ cut_goes_on i _ _ _ c.top.ensures (at_value _ (λ e. c.is_some_and.result ≡ ltb c.args.level e.level) c.top.result (λ x k. search (rules, tests)) c.is_some_and.ensures) c.loop-level-test.true ∙ c.loop-level.invariant

pub loop-level-smaller : goal.loop-level-smaller
loop-level-smaller c =
    omega (arith, ap length c.pop.ensures, shorter c.args.level _ _ _ c.top.ensures (at_value _ (λ e. c.is_some_and.result ≡ ltb c.args.level e.level) c.top.result (λ x k. search (rules, tests)) c.is_some_and.ensures) c.loop-level-test.true)

pub returns : goal.returns
returns c =
    cut_stops c.args.level _ _ _ c.top.ensures (at_value _ (λ e. c.is_some_and.result ≡ ltb c.args.level e.level) c.top.result (λ x k. search (rules, tests)) c.is_some_and.ensures) c.loop-level-test.false ∙ c.loop-level.invariant
