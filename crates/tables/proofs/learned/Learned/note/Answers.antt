use Rattle.std.proofs.Common.{arith}
use Rattle.tables.specs.Learned.{rows_of}
use Rattle.tables.proofs.Rows.{front_noted}
use Rattle.tables.proofs.learned.Learned.note.Goals as goal

pub returns : goal.returns
unfolding rows_of
returns c =
    let s = c.args.self.now in
    front_noted s.len s.rows c.note_rows.new.rows c.args.reasons.now (omega arith) (omega arith) c.note_rows.ensures
