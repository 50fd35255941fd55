use Rattle.std.proofs.Common.{◌≡◌, ℕ, ◌*◌, length, get_or, refl, ◌∙◌, rules, tests, arith}
use Rattle.std.proofs.lemmas.Iterator.{YieldsList-from_range, YieldsList-from_map}
use Rattle.std.proofs.lemmas.Iterator.Consumers.{YieldsList-at, fits_from_yields_list, sum_from_yields_List}
use Rattle.cases.specs.Meanings.{amounts_of}
use Rattle.casefile.specs.Bytes.{charge_field}
use Rattle.casefile.proofs.Over.{amounts_sum, amounts_small}
use Rattle.casefile.proofs.writer.amounts_len.Goals as goal

-- Both answers build the chain: its steps are a term that Rattle makes for the call, with no name to state a lemma over.
pub sum-requires-clause-fits : goal.sum-requires-clause-fits
sum-requires-clause-fits g c =
    let as1 = amounts_of (g.C.Case.meaning c.args.case.now) in
    let k = g.met.C.Case.limits c.args.case.now in
    let n : ℕ = 2 * c.options.result in
    let e : n ≡ length as1 = omega (arith, k.amount_each) in
    fits_from_yields_list c.map.result _
    (YieldsList-from_map _ (λ l. length (charge_field l (get_or as1 l 0))) (YieldsList-at c.map.ensures.source (YieldsList-from_range 0 n n refl (omega arith))) c.map.ensures.closure (λ x r q k. search (rules, tests)))
    (omega (arith, amounts_sum as1 n e, amounts_small 0 as1, k.few_options))

pub returns : goal.returns
returns g c =
    let as1 = amounts_of (g.C.Case.meaning c.args.case.now) in
    let k = g.met.C.Case.limits c.args.case.now in
    let n : ℕ = 2 * c.options.result in
    let e : n ≡ length as1 = omega (arith, k.amount_each) in
    let v = sum_from_yields_List c.map.result c.sum.result c.sum.ensures.ran
    (YieldsList-from_map _ (λ l. length (charge_field l (get_or as1 l 0))) (YieldsList-at c.map.ensures.source (YieldsList-from_range 0 n n refl (omega arith))) c.map.ensures.closure (λ x r q k. search (rules, tests))) in
    record { value = v ∙ amounts_sum as1 n e; small = omega (arith, v, amounts_sum as1 n e, amounts_small 0 as1, k.few_options) }
