use Rattle.std.proofs.Common.{◌+◌, ◌<◌, length, take, arith}
use Rattle.cases.specs.Meanings.{amounts_of}
use Rattle.casefile.specs.Bytes.{amount_fields}
use Rattle.casefile.proofs.Over.{room_next, wrote_next, amounts_next, amounts_part}
use Rattle.casefile.proofs.writer.Cursor.put_amounts.Goals as goal

pub put_amount-requires : goal.put_amount-requires
put_amount-requires g c =
    let as1 = amounts_of (g.C.Case.meaning c.args.case.now) in
    let l = c.loop-l.l in
    let h : l < length as1 = omega (arith, (g.met.C.Case.limits c.args.case.now).amount_each) in
    room_next c.args.self.now c.loop-l.self (amount_fields 0 as1) (amount_fields 0 (take l as1)) _ _ c.requires (amounts_next as1 l c.amount.result h c.amount.ensures) (amounts_part as1 (l + 1)) c.loop-l.invariant

pub loop-l-preserved : goal.loop-l-preserved
loop-l-preserved g c =
    let as1 = amounts_of (g.C.Case.meaning c.args.case.now) in
    let l = c.loop-l.l in
    let h : l < length as1 = omega (arith, (g.met.C.Case.limits c.args.case.now).amount_each) in
    wrote_next c.args.self.now c.loop-l.self c.put_amount.new.self (amount_fields 0 as1) (amount_fields 0 (take l as1)) _ _ c.requires (amounts_next as1 l c.amount.result h c.amount.ensures) (amounts_part as1 (l + 1)) c.loop-l.invariant c.put_amount.ensures
