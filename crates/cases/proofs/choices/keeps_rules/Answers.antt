use Rattle.std.proofs.Common.{◌≡◌, rules, tests, [], length, get_or, ◌∙◌}
use Rattle.std.specs.List.{range_with_len, list_all}
use Rattle.std.proofs.lemmas.Iterator.{YieldsList-from_range}
use Rattle.std.proofs.lemmas.Iterator.Search.{all_from_yields_List}
use Rattle.cases.specs.Choices.{sets, keeps}
use Rattle.cases.specs.Meanings.{rules_of}
use Rattle.cases.proofs.Places.{keeps_all_by_places}
use Rattle.cases.proofs.choices.keeps_rules.Goals as goal

pub returns : goal.returns
returns g c =
    let S = sets c.args.choice.now in
    let all = rules_of (g.C.Case.meaning c.args.case.now) in
    let n = length all in
    let ran : c.all.result ≡ list_all (λ r. keeps S (get_or all r [])) (range_with_len 0 n) =
    all_from_yields_List (λ r. keeps S (get_or all r [])) _ _ c.all.result c.all.ensures.ran (YieldsList-from_range 0 n n (search rules) (search rules)) (λ x b q k. search (rules, tests)) in
    ran ∙ keeps_all_by_places S all
