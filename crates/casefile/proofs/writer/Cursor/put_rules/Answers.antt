use Rattle.std.proofs.Common.{◌+◌, take, arith}
use Rattle.cases.specs.Meanings.{rules_of}
use Rattle.casefile.specs.Bytes.{rule_fields}
use Rattle.casefile.proofs.Over.{room_next, wrote_next, rules_more, rules_part}
use Rattle.casefile.proofs.writer.Cursor.put_rules.Goals as goal

pub put_rule-requires : goal.put_rule-requires
put_rule-requires g c =
    let rs = rules_of (g.C.Case.meaning c.args.case.now) in
    let r = c.loop-r.r in
    room_next c.args.self.now c.loop-r.self (rule_fields rs) (rule_fields (take r rs)) _ _ c.requires (rules_more rs r (omega arith)) (rules_part rs (r + 1)) c.loop-r.invariant

pub loop-r-preserved : goal.loop-r-preserved
loop-r-preserved g c =
    let rs = rules_of (g.C.Case.meaning c.args.case.now) in
    let r = c.loop-r.r in
    wrote_next c.args.self.now c.loop-r.self c.put_rule.new.self (rule_fields rs) (rule_fields (take r rs)) _ _ c.requires (rules_more rs r (omega arith)) (rules_part rs (r + 1)) c.loop-r.invariant c.put_rule.ensures
