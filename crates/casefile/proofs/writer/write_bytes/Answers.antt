use Rattle.std.proofs.Common.{sym, ◌∙◌, rules, arith}
use Rattle.casefile.proofs.Over.{written_ok}
use Rattle.casefile.proofs.writer.write_bytes.Goals as goal

pub returns-clause-leaves : goal.returns-clause-leaves
returns-clause-leaves g c =
    let w = c.put_case.ensures in
    let same = sym w.same in
    ◌∙◌ {b = c.put_case.new.self.out.now} (search rules)
    (written_ok (g.C.Case.meaning c.args.case.now) c.args.out.now c.put_case.new.self.out.now c.put_case.new.self.at
    (sym c.oversize.ensures ∙ c.if-oversize.false) (omega arith) (omega (arith, w.place)) w.bytes).1
