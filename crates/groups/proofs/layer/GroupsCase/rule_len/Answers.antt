use Rattle.std.proofs.Common.{◌-◌, ◌≤◌, length, sym, ap, ◌∙◌, arith}
use Rattle.cases.specs.Meanings.{rules_of}
use Rattle.groups.specs.Facts.Groups.{pair_length, group_rule_added_held}
use Rattle.groups.specs.Facts.GroupLayers.{groups_of}
use Rattle.groups.proofs.layer.GroupsCase.rule_len.Goals as goal

pub returns-then-r-rules-2 : goal.returns-then-r-rules-2
returns-then-r-rules-2 g c =
    let s = c.args.self.now in
    let m = g.C.Case.meaning s.below in
    let h : length (rules_of m) ≤ c.args.r = omega (arith, c.rules-rules.ensures) in
    sym (ap length (group_rule_added_held (groups_of s) m (g.met.C.Case.limits s.below) s.fits c.args.r h)
    ∙ pair_length (groups_of s) (c.args.r - length (rules_of m)) (omega (arith, c.rules-rules.ensures, s.paired)))
