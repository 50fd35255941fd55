use Rattle.std.proofs.Common.{◌≡◌, ℕ, List, rules, length, get_or, map, [], max, ap, ◌∙◌}
use Rattle.std.specs.List.{range_with_len, reduce}
use Rattle.std.specs.Option.{unwrap_or}
use Rattle.std.specs.Ordering.{nat_cmp, max_by_ordering}
use Rattle.std.proofs.lemmas.Iterator.{YieldsList-from_range, YieldsList-from_map}
use Rattle.std.proofs.lemmas.Iterator.Consumers.{reduce_from_yields_List}
use Rattle.std.proofs.lemmas.List.Folds.{max_of_map}
use Rattle.cases.specs.Meanings.{rules_of}
use Rattle.cases.proofs.Places.{fold_by_places}
use Rattle.cases.proofs.summary.longest_rule.Goals as goal

pub returns : goal.returns
returns g c =
    let all = rules_of (g.C.Case.meaning c.args.case.now) in
    let n = length all in
    let len = λ (r : ℕ). length (get_or all r []) in
    let ran : c.max.result ≡ reduce (λ (p z : ℕ). max_by_ordering (nat_cmp p z) p z) (map len (range_with_len 0 n)) =
    reduce_from_yields_List _ c.map.result c.max.result c.max.ensures.ran (YieldsList-from_map _ len (YieldsList-from_range 0 n n (search rules) (search rules)) c.map.ensures.closure (λ x r q k. search rules)) in
    c.unwrap_or.ensures ∙ ap (λ o. unwrap_or o 0) ran ∙ max_of_map len (range_with_len 0 n) ∙ fold_by_places (λ (m : ℕ) (r : List ℕ). max m (length r)) 0 all []
