use Rattle.std.proofs.Common.{◌+◌, ◌<◌, ◌≤◌, length, sym, ap, arith}
use Rattle.cases.specs.Meanings.{rules_of, options_of}
use Rattle.cases.specs.Facts.Limits.{rule_out}
use Rattle.layers.specs.Facts.Layered.{room_told}
use Rattle.layers.specs.Opens.{open_room, opened}
use Rattle.layers.specs.Facts.Opens.{open_rules, rule_not_both}
use Rattle.layers.proofs.opened.OpenCase.rule_len.Goals as goal

pub returns-then-r-rules-2 : goal.returns-then-r-rules-2
returns-then-r-rules-2 g c =
    let m = g.C.Case.meaning c.args.self.now.below in
    let r = c.args.r in
    let room = room_told open_room m c.options-options.ensures c.rules-rules.ensures c.if-not-has_room.ensures in
    let h : length (rules_of m) ≤ r = omega (arith, c.rules-rules.ensures) in
    let k : r < length (rules_of m) + options_of m = omega (arith, c.rules-rules.ensures, c.options-options.ensures) in
    sym (ap length (rule_not_both r m room h k))

pub returns-else-r-rules-2 : goal.returns-else-r-rules-2
returns-else-r-rules-2 g c =
    let m = g.C.Case.meaning c.args.self.now.below in
    let room = room_told open_room m c.options-options.ensures c.rules-rules.ensures c.if-not-has_room.ensures in
    sym (ap length (rule_out (opened m) c.args.r (omega (arith, open_rules m room, c.rules-rules.ensures, c.options-options.ensures))))
