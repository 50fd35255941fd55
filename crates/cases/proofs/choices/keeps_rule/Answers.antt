use Rattle.std.proofs.Common.{◌≡◌, rules, tests, [], length, get_or, ◌∙◌}
use Rattle.std.specs.List.{range_with_len, list_any}
use Rattle.std.proofs.lemmas.Iterator.{YieldsList-from_range}
use Rattle.std.proofs.lemmas.Iterator.Search.{any_from_yields_List}
use Rattle.cases.specs.Choices.{sets}
use Rattle.cases.specs.Meanings.{rules_of}
use Rattle.cases.proofs.Places.{keeps_by_places}
use Rattle.cases.proofs.choices.keeps_rule.Goals as goal

pub returns : goal.returns
returns g c =
    let S = sets c.args.choice.now in
    let rule = get_or (rules_of (g.C.Case.meaning c.args.case.now)) c.args.r [] in
    let n = length rule in
    let ran : c.any.result ≡ list_any (λ j. S (get_or rule j 255)) (range_with_len 0 n) =
    any_from_yields_List (λ j. S (get_or rule j 255)) _ _ c.any.result c.any.ensures.ran (YieldsList-from_range 0 n n (search rules) (search rules)) (λ x b q k. search (rules, tests)) in
    ran ∙ keeps_by_places S rule
