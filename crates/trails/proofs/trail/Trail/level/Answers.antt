use Rattle.std.proofs.Common.{◌≡◌, rules, arith}
use borrow.Author.Tests.{tests}
use Rattle.trails.specs.Trails.{listed}
use Rattle.literals.proofs.Options.{at_value}
use Rattle.trails.proofs.Entries.{level_top}
use Rattle.trails.proofs.Facts.{few}
use Rattle.trails.proofs.Levels.{level_length}
use Rattle.trails.proofs.trail.Trail.level.Goals as goal

pub returns-clause-answers : goal.returns-clause-answers
returns-clause-answers c = level_top _ _ _ c.args.self.now.levelled c.top.ensures (at_value _ (λ e. c.map_or.result ≡ e.level) c.top.result (λ x k. search (rules, tests)) c.map_or.ensures)

pub returns-clause-within : goal.returns-clause-within
returns-clause-within c =
    let t = c.args.self.now in
    omega (arith, level_top _ _ _ t.levelled c.top.ensures (at_value _ (λ e. c.map_or.result ≡ e.level) c.top.result (λ x k. search (rules, tests)) c.map_or.ensures), level_length (listed t), few t)
