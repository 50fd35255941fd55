use Rattle.std.proofs.Common.{length, sym, arith}
use Rattle.std.proofs.lemmas.Bool.{lt-ltb, le-ltb}
use Rattle.tables.specs.Learned.{rows_of}
use Rattle.tables.proofs.Facts.{len_rows}
use Rattle.tables.proofs.Rows.{front_push}
use Rattle.tables.proofs.learned.Learned.learn.Goals as goal

pub returns-then-self-ge-MOST_ROWS-clause-answers : goal.returns-then-self-ge-MOST_ROWS-clause-answers
returns-then-self-ge-MOST_ROWS-clause-answers c =
    let s = c.args.self.now in
    sym (le-ltb (length (rows_of s)) 64 (omega (arith, len_rows s)))

pub returns-clause-answers : goal.returns-clause-answers
returns-clause-answers c =
    let s = c.args.self.now in
    sym (lt-ltb (length (rows_of s)) 64 (omega (arith, len_rows s)))

pub returns-clause-leaves : goal.returns-clause-leaves
unfolding rows_of
returns-clause-leaves c = let s = c.args.self.now in front_push s.rows s.len _ (omega arith)
