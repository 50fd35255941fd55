use Rattle.std.proofs.Common.{◌≡◌, ℕ, ◌*◌, ◌-◌, ◌^◌, ◌<◌, ◌≤◌, rules, length, get_or, map, sum, ap, ◌∙◌, arith}
use Rattle.std.specs.List.{range_with_len}
use Rattle.std.proofs.lemmas.Iterator.{YieldsList-from_range, YieldsList-from_map}
use Rattle.std.proofs.lemmas.Iterator.Consumers.{sum_from_yields_List, fits_from_yields_list}
use Rattle.std.proofs.lemmas.List.Elements.{All-from_get_or}
use Rattle.std.proofs.lemmas.List.Sums.{sum_by-le}
use Rattle.cases.specs.Meanings.{Meaning, amounts_of}
use Rattle.cases.specs.Limits.{Limited}
use Rattle.cases.proofs.Places.{all_places}
use Rattle.cases.proofs.summary.total_amount.Goals as goal

total_fits : (m : Meaning) → Limited m → sum (amounts_of m) < 2 ^ 64
total_fits m h =
    let amounts = amounts_of m in
    omega (arith, h.few_options, h.amount_each, sum_by-le (λ (x : ℕ). x) (2 ^ 32 - 1) amounts (All-from_get_or (λ (x : ℕ). x ≤ 2 ^ 32 - 1) amounts 0 (λ i l. omega (arith, h.small_amounts i))))

pub sum-requires-clause-fits : goal.sum-requires-clause-fits
sum-requires-clause-fits g c =
    let m = g.C.Case.meaning c.args.case.now in
    let n = length (amounts_of m) in
    let h = λ (l : ℕ). get_or (amounts_of m) l 0 in
    fits_from_yields_list c.map.result _
    (YieldsList-from_map _ h (YieldsList-from_range 0 (2 * c.options.result) n (search rules) (omega (arith, (g.met.C.Case.limits c.args.case.now).amount_each))) c.map.ensures.closure (λ x r q k. search rules))
    (rw (all_places (amounts_of m) 0) (total_fits m (g.met.C.Case.limits c.args.case.now)))

pub returns : goal.returns
returns g c =
    let m = g.C.Case.meaning c.args.case.now in
    let n = length (amounts_of m) in
    let h = λ (l : ℕ). get_or (amounts_of m) l 0 in
    let ran : c.sum.result ≡ sum (map h (range_with_len 0 n)) =
    sum_from_yields_List c.map.result c.sum.result c.sum.ensures.ran
    (YieldsList-from_map _ h (YieldsList-from_range 0 (2 * c.options.result) n (search rules) (omega (arith, (g.met.C.Case.limits c.args.case.now).amount_each))) c.map.ensures.closure (λ x r q k. search rules)) in
    ran ∙ ap sum (all_places (amounts_of m) 0)
