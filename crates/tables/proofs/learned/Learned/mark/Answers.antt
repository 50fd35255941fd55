use Rattle.std.proofs.Common.{get_or, sym, refl, arith}
use Rattle.tables.specs.Learned.{rows_of}
use Rattle.tables.specs.Rows.{no_row}
use Rattle.tables.proofs.Facts.{len_rows}
use Rattle.tables.proofs.Rows.{front_marked, marked_past}
use Rattle.tables.proofs.learned.Learned.mark.Goals as goal

pub returns-then-j-self : goal.returns-then-j-self
unfolding rows_of
returns-then-j-self c =
    let s = c.args.self.now in
    front_marked s.rows s.len c.args.j (record { literals = (get_or s.rows c.args.j no_row).literals; reason = c.args.reason }) refl

pub returns-else-j-self : goal.returns-else-j-self
returns-else-j-self c =
    let s = c.args.self.now in
    sym (marked_past c.args.j c.args.reason (rows_of s) (omega (arith, len_rows s)))
