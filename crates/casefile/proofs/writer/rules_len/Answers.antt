use Rattle.std.proofs.Common.{[], length, get_or, refl, ◌∙◌, rules, tests, arith}
use Rattle.std.proofs.lemmas.Iterator.{YieldsList-from_range, YieldsList-from_map}
use Rattle.std.proofs.lemmas.Iterator.Consumers.{YieldsList-at, fits_from_yields_list, sum_from_yields_List}
use Rattle.cases.specs.Meanings.{rules_of}
use Rattle.casefile.specs.Bytes.{field}
use Rattle.casefile.proofs.Over.{rules_sum, rules_small}
use Rattle.casefile.proofs.writer.rules_len.Goals as goal

-- Both answers build the chain: its steps are a term that Rattle makes for the call, with no name to state a lemma over.
pub sum-requires-clause-fits : goal.sum-requires-clause-fits
sum-requires-clause-fits g c =
    let rs = rules_of (g.C.Case.meaning c.args.case.now) in
    let k = g.met.C.Case.limits c.args.case.now in
    let n = c.rules.result in
    fits_from_yields_list c.map.result _
    (YieldsList-from_map _ (λ r. length (field 3 (get_or rs r []))) (YieldsList-at c.map.ensures.source (YieldsList-from_range 0 n n refl (omega arith))) c.map.ensures.closure (λ x r q k. search (rules, tests)))
    (omega (arith, rules_sum rs n c.rules.ensures, rules_small rs k.short_rules, k.few_rules))

pub returns : goal.returns
returns g c =
    let rs = rules_of (g.C.Case.meaning c.args.case.now) in
    let k = g.met.C.Case.limits c.args.case.now in
    let n = c.rules.result in
    let v = sum_from_yields_List c.map.result c.sum.result c.sum.ensures.ran
    (YieldsList-from_map _ (λ r. length (field 3 (get_or rs r []))) (YieldsList-at c.map.ensures.source (YieldsList-from_range 0 n n refl (omega arith))) c.map.ensures.closure (λ x r q k. search (rules, tests))) in
    record { value = v ∙ rules_sum rs n c.rules.ensures; small = omega (arith, v, rules_sum rs n c.rules.ensures, rules_small rs k.short_rules, k.few_rules) }
