use Rattle.std.proofs.Common.{◌≡◌, ℕ, ◌+◌, ◌*◌, rules, tests, length, get_or, eqb, not, cond, arith, ◌∙◌}
use Rattle.std.specs.List.{range_with_len, filter}
use Rattle.std.proofs.lemmas.Iterator.{YieldsList-from_range}
use Rattle.std.proofs.lemmas.Iterator.Consumers.{YieldsList-from_filter, count_from_yields_List}
use Rattle.std.proofs.lemmas.List.Sums.{length-filter}
use Rattle.cases.specs.Meanings.{amounts_of}
use Rattle.cases.proofs.Places.{fold_by_places}
use Rattle.cases.proofs.summary.charged_amounts.Goals as goal

pub returns : goal.returns
returns g c =
    let amounts = amounts_of (g.C.Case.meaning c.args.case.now) in
    let n = length amounts in
    let test = λ (l : ℕ). not (eqb (get_or amounts l 0) 0) in
    let ran : c.count.result ≡ length (filter test (range_with_len 0 n)) =
    count_from_yields_List c.filter.result c.count.result c.count.ensures.ran
    (YieldsList-from_filter _ test (YieldsList-from_range 0 (2 * c.options.result) n (search rules) (omega (arith, (g.met.C.Case.limits c.args.case.now).amount_each))) c.filter.ensures.closure (λ x b q k. search (rules, tests))) in
    ran ∙ length-filter test (range_with_len 0 n) ∙ fold_by_places (λ (a x : ℕ). a + cond (not (eqb x 0)) 1 0) 0 amounts 0
