use Rattle.std.proofs.Common.{length, sym, ◌∙◌, arith}
use Rattle.std.proofs.lemmas.Bool.{cond-true, cond-false, le-leb, lt-leb}
use Rattle.tables.specs.Learned.{rows_of}
use Rattle.tables.proofs.Facts.{len_rows}
use Rattle.tables.proofs.learned.Learned.leaving.Goals as goal

pub returns-then-self-lt-MOST_ROWS : goal.returns-then-self-lt-MOST_ROWS
returns-then-self-lt-MOST_ROWS c =
    let s = c.args.self.now in
    sym (cond-false _ _ _ (lt-leb 64 (length (rows_of s)) (omega (arith, len_rows s))) ∙ len_rows s)

pub returns : goal.returns
returns c =
    let s = c.args.self.now in
    c.first_free.ensures ∙ sym (cond-true _ _ _ (le-leb 64 (length (rows_of s)) (omega (arith, len_rows s))))
