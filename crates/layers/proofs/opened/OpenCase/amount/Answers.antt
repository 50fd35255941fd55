use Rattle.std.proofs.Common.{◌≡◌, ◌%◌, eqb, sym, ◌∙◌, arith}
use Rattle.std.proofs.lemmas.Bool.{eq-eqb, ne_eqb, cond-true, cond-false}
use Rattle.layers.specs.Facts.Layered.{room_told}
use Rattle.layers.specs.Opens.{open_room}
use Rattle.layers.specs.Facts.Opens.{open_amount}
use Rattle.layers.proofs.opened.OpenCase.amount.Goals as goal

pub returns-then-l-eq0 : goal.returns-then-l-eq0
returns-then-l-eq0 g c =
    let m = g.C.Case.meaning c.args.self.now.below in
    let l = c.args.l in
    let room = room_told open_room m c.options.ensures c.rules.ensures c.if-not-has_room.ensures in
    let e : l % 2 ≡ 0 = omega arith in
    sym (open_amount l m room (g.met.C.Case.limits c.args.self.now.below).amount_each ∙ cond-true (eqb (l % 2) 0) _ _ (eq-eqb (l % 2) 0 e) ∙ sym c.amount.ensures)

pub returns-else-l-eq0 : goal.returns-else-l-eq0
returns-else-l-eq0 g c =
    let m = g.C.Case.meaning c.args.self.now.below in
    let l = c.args.l in
    let room = room_told open_room m c.options.ensures c.rules.ensures c.if-not-has_room.ensures in
    sym (open_amount l m room (g.met.C.Case.limits c.args.self.now.below).amount_each ∙ cond-false (eqb (l % 2) 0) _ _ (ne_eqb (l % 2) 0 (λ e. omega arith)))
