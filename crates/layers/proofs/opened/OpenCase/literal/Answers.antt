use Rattle.std.proofs.Common.{◌+◌, ◌-◌, ◌<◌, ◌≤◌, length, get_or, sym, ap, ◌∙◌, arith}
use Rattle.cases.specs.Meanings.{rules_of, options_of}
use Rattle.cases.specs.Facts.Limits.{rule_out}
use Rattle.layers.specs.Facts.Layered.{room_told}
use Rattle.layers.specs.Opens.{open_room, opened, not_both}
use Rattle.layers.specs.Facts.Opens.{open_rules, rule_not_both, literal_none}
use Rattle.layers.proofs.opened.OpenCase.literal.Goals as goal

pub returns-then-r-rules : goal.returns-then-r-rules
returns-then-r-rules g c =
    let m = g.C.Case.meaning c.args.self.now.below in
    let room = room_told open_room m c.options-options.ensures c.rules-rules.ensures c.if-not-has_room.ensures in
    sym (ap (λ x. get_or x c.args.j 255) (rule_out (opened m) c.args.r (omega (arith, open_rules m room, c.rules-rules.ensures, c.options-options.ensures))))

pub returns-then-r-rules-2 : goal.returns-then-r-rules-2
returns-then-r-rules-2 g c =
    let m = g.C.Case.meaning c.args.self.now.below in
    let r = c.args.r in
    let room = room_told open_room m c.options-options.ensures c.rules-rules.ensures c.if-not-has_room.ensures in
    let h : length (rules_of m) ≤ r = omega (arith, c.rules-rules.ensures) in
    let k : r < length (rules_of m) + options_of m = omega (arith, c.rules-rules.ensures, c.options-options.ensures) in
    c.not_both_literal.ensures
    ∙ ap (λ b. get_or (not_both (r - b)) c.args.j 255) c.rules-rules.ensures
    ∙ sym (ap (λ x. get_or x c.args.j 255) (rule_not_both r m room h k))

pub returns-else-l-lt128 : goal.returns-else-l-lt128
returns-else-l-lt128 g c =
    let m = g.C.Case.meaning c.args.self.now.below in
    let room = room_told open_room m c.options-options.ensures c.rules-rules.ensures c.if-not-has_room.ensures in
    let h : c.args.r < length (rules_of m) = omega (arith, c.rules-rules.ensures) in
    sym (literal_none c.args.r c.args.j m room h (g.met.C.Case.limits c.args.self.now.below) (omega (arith, c.literal-l.ensures)))
