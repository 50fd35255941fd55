use Rattle.std.proofs.Common.{◌∙◌, rules, tests}
use Rattle.std.proofs.lemmas.Iterator.{YieldsList-from_slice}
use Rattle.std.proofs.lemmas.Iterator.Search.{any_from_yields_List}
use Rattle.cases.specs.Choices.{sets}
use Rattle.cases.proofs.Places.{any_keeps}
use Rattle.search.proofs.choices.sets_one.Goals as goal

pub returns : goal.returns
returns c =
    any_from_yields_List (sets c.args.choice.now) _ _ c.any.result c.any.ensures.ran (YieldsList-from_slice c.args.literals.now (search rules)) (λ x b q k. search (rules, tests))
    ∙ any_keeps (sets c.args.choice.now) c.args.literals.now
