use Rattle.std.proofs.Common.{◌≡◌, ◌+◌, ◌-◌, ◌*◌, ◌≤◌, length, get_or, sym, ap, ◌∙◌, arith}
use Rattle.std.proofs.lemmas.List.{length_push}
use Rattle.cases.specs.Meanings.{options_of, rules_of}
use Rattle.cases.specs.Facts.Limits.{rule_out}
use Rattle.wishes.specs.Wishes.{Wish, wishing}
use Rattle.wishes.specs.Facts.Wishes.{no_wish, wish_rules_counted_held, wish_rule_added_held}
use Rattle.wishes.specs.Facts.WishLayers.{wishes_of}
use Rattle.wishes.proofs.layer.WishesCase.rule_len.Goals as goal

pub returns-in-Some : goal.returns-in-Some
returns-in-Some g c =
    let s = c.args.self.now in
    let ws = wishes_of s in
    let m = g.C.Case.meaning s.below in
    let i = c.args.r - length (rules_of m) in
    let same : c.args.r - c.rules-rules.result ≡ i = ap (λ k. c.args.r - k) c.rules-rules.ensures in
    let h : length (rules_of m) ≤ c.args.r = omega (arith, c.rules-rules.ensures) in
    let rule = wish_rule_added_held ws m (g.met.C.Case.limits s.below) s.fits c.args.r h (omega (arith, c.rules-rules.ensures, c.in-Some.ensures.0)) in
    let len = ap (λ (w : Wish). length w.literals) (c.in-Some.ensures.1 ∙ ap (λ k. get_or ws k no_wish) same) in
    omega (arith, c.len.ensures, len, ap length rule, length_push (get_or ws i no_wish).literals (2 * (options_of m + i)))

pub returns-in-None : goal.returns-in-None
returns-in-None g c =
    let s = c.args.self.now in
    let m = g.C.Case.meaning s.below in
    let all = wish_rules_counted_held (wishes_of s) m (g.met.C.Case.limits s.below) s.fits in
    sym (ap length (rule_out (wishing (wishes_of s) m) c.args.r (omega (arith, all, c.in-None.ensures, c.rules-rules.ensures))))
