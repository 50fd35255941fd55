use Rattle.std.proofs.Common.{◌≡◌, ◌-◌, ◌*◌, ◌/◌, ◌%◌, ◌≤◌, eqb, get_or, sym, refl, ap, ◌∙◌, arith}
use Rattle.std.proofs.lemmas.List.{get_or_past}
use Rattle.std.proofs.lemmas.Bool.{cond-true, cond-false, cond_both, eq-eqb, ne_eqb}
use Rattle.cases.specs.Meanings.{options_of}
use Rattle.wishes.specs.Wishes.{Wish}
use Rattle.wishes.specs.Facts.Wishes.{no_wish, wish_amount_added_held}
use Rattle.wishes.specs.Facts.WishLayers.{wishes_of}
use Rattle.wishes.proofs.layer.WishesCase.amount.Goals as goal

pub returns-in_default : goal.returns-in_default
returns-in_default g c =
    let s = c.args.self.now in
    let ws = wishes_of s in
    let m = g.C.Case.meaning s.below in
    let l = c.args.l in
    let h : 2 * options_of m ≤ l = omega (arith, c.options-first.ensures) in
    let none : get_or ws ((l - 2 * options_of m) / 2) no_wish ≡ no_wish = get_or_past ws ((l - 2 * options_of m) / 2) no_wish (omega (arith, c.in_default.ensures, c.options-first.ensures)) in
    sym (wish_amount_added_held ws m (g.met.C.Case.limits s.below) s.fits l h
    ∙ cond_both (eqb (l % 2) 0) (get_or ws ((l - 2 * options_of m) / 2) no_wish).amount 0 (λ x. x ≡ 0) (λ _. ap (λ (w : Wish). w.amount) none) (λ _. refl))

pub returns-then-l-eq0 : goal.returns-then-l-eq0
returns-then-l-eq0 g c =
    let s = c.args.self.now in
    let ws = wishes_of s in
    let m = g.C.Case.meaning s.below in
    let l = c.args.l in
    let h : 2 * options_of m ≤ l = omega (arith, c.options-first.ensures) in
    ap (λ (w : Wish). w.amount) (c.in-Some.ensures.1 ∙ ap (λ n. get_or ws ((l - 2 * n) / 2) no_wish) c.options-first.ensures)
    ∙ sym (wish_amount_added_held ws m (g.met.C.Case.limits s.below) s.fits l h ∙ cond-true (eqb (l % 2) 0) _ _ (eq-eqb (l % 2) 0 c.if-l-eq0.true))

pub returns-else-l-eq0 : goal.returns-else-l-eq0
returns-else-l-eq0 g c =
    let s = c.args.self.now in
    let m = g.C.Case.meaning s.below in
    let l = c.args.l in
    let h : 2 * options_of m ≤ l = omega (arith, c.options-first.ensures) in
    sym (wish_amount_added_held (wishes_of s) m (g.met.C.Case.limits s.below) s.fits l h ∙ cond-false (eqb (l % 2) 0) _ _ (ne_eqb (l % 2) 0 c.if-l-eq0.false))
