use Rattle.std.proofs.Common.{rules, ◌++◌, drop, ap, ◌∙◌}
use Rattle.std.proofs.lemmas.Result.{MatchResult-weaker}
use Rattle.layers.specs.Readings.{is_on, setting_in}
use Rattle.layers.proofs.Reading.{settings_read}
use Rattle.layers.proofs.opened.Open.read_down.Goals as goal

pub returns-clause-writes : goal.returns-clause-writes
returns-clause-writes g c =
    let choice = c.args.choice.now in
    MatchResult-weaker c.read_front.result c.read_front.ensures.writes
    (λ n h. h (setting_in (is_on choice)) (λ v x l p. search rules) ∙ ap (λ xs. xs ++ drop n c.args.into.now) (settings_read n choice)) (λ _ h. h)
