use Rattle.std.proofs.Common.{◌≡◌, ◌+◌, ◌-◌, ◌*◌, ◌≤◌, [], ◌∷◌, ◌++◌, length, get_or, sym, ap, ◌∙◌, arith}
use Rattle.std.proofs.lemmas.List.{get_or_push}
use Rattle.cases.specs.Meanings.{options_of, rules_of}
use Rattle.cases.specs.Facts.Limits.{rule_out}
use Rattle.layers.specs.RowViews.{items_of}
use Rattle.wishes.specs.Wishes.{Wish, wishing}
use Rattle.wishes.specs.Facts.Wishes.{no_wish, wish_rules_counted_held, wish_rule_added_held, get_or-unpushed}
use Rattle.wishes.specs.Facts.WishLayers.{wishes_of}
use Rattle.wishes.proofs.layer.WishesCase.literal.Given as given
use Rattle.wishes.proofs.layer.WishesCase.literal.Goals as goal
use Rattle.wishes.proofs.layer.WishesCase.literal.Goals.{After-len}

pub returns-in_default : goal.returns-in_default
returns-in_default g c =
    let s = c.args.self.now in
    let m = g.C.Case.meaning s.below in
    let all = wish_rules_counted_held (wishes_of s) m (g.met.C.Case.limits s.below) s.fits in
    sym (ap (λ x. get_or x c.args.j 255) (rule_out (wishing (wishes_of s) m) c.args.r (omega (arith, all, c.in_default.ensures, c.rules-rules.ensures))))

-- The rule of the wish that was read.
rule : (g : given.Over) (c : goal.After-len g)
    → get_or (rules_of (wishing (wishes_of c.args.self.now) (g.C.Case.meaning c.args.self.now.below))) c.args.r []
    ≡ items_of c.in-Some.wish.now.literals ++ (2 * (options_of (g.C.Case.meaning c.args.self.now.below) + (c.args.r - c.rules-rules.result))) ∷ []
rule g c =
    let s = c.args.self.now in
    let ws = wishes_of s in
    let m = g.C.Case.meaning s.below in
    let h : length (rules_of m) ≤ c.args.r = omega (arith, c.rules-rules.ensures) in
    wish_rule_added_held ws m (g.met.C.Case.limits s.below) s.fits c.args.r h (omega (arith, c.rules-rules.ensures, c.in-Some.ensures.0))
    ∙ ap (λ k. (get_or ws (c.args.r - k) no_wish).literals ++ (2 * (options_of m + (c.args.r - k))) ∷ []) (sym c.rules-rules.ensures)
    ∙ ap (λ (w : Wish). w.literals ++ (2 * (options_of m + (c.args.r - c.rules-rules.result))) ∷ []) (sym c.in-Some.ensures.1)

pub returns-then-j-len : goal.returns-then-j-len
returns-then-j-len g c =
    let read = c.in-Some.wish.now.literals in
    let e : length (items_of read) ≡ c.args.j = sym (c.if-j-len.true ∙ c.len.ensures) in
    ap (λ n. 2 * (n + (c.args.r - c.rules-rules.result))) c.options.ensures
    ∙ sym (ap (λ x. get_or x c.args.j 255) (rule g (goal.at.returns-then-j-len g c).After-len) ∙ get_or_push (items_of read) _ 255 c.args.j e)

pub returns-else-j-len : goal.returns-else-j-len
returns-else-j-len g c =
    c.at.ensures
    ∙ sym (ap (λ x. get_or x c.args.j 255) (rule g (goal.at.returns-else-j-len g c).After-len)
    ∙ get_or-unpushed (items_of c.in-Some.wish.now.literals) _ 255 c.args.j (λ e. c.if-j-len.false (e ∙ sym c.len.ensures)))
