use Rattle.std.proofs.Common.{◌≡◌, ◌+◌, ◌-◌, get_or, sym, ap, ◌∙◌, arith}
use Rattle.calculus.proofs.Scans.{remove_past}
use Rattle.tables.specs.Rows.{no_row}
use Rattle.tables.specs.Learned.{rows_of}
use Rattle.tables.proofs.Facts.{len_rows}
use Rattle.tables.proofs.Rows.{front_removed}
use Rattle.tables.proofs.learned.Learned.remove.Goals as goal

pub returns-then-p-self : goal.returns-then-p-self
returns-then-p-self c = let s = c.args.self.now in sym (remove_past c.args.p (rows_of s) (omega (arith, len_rows s)))

pub returns : goal.returns
unfolding rows_of
returns c =
    let s = c.args.self.now in
    let h = c.copy_within.ensures.by_index in
    front_removed s.rows c.copy_within.new.self c.args.p s.len (omega arith) (omega arith) (omega (arith, c.copy_within.ensures.len))
    (λ q a b. h.0 q no_row a (omega arith) ∙ (let e : c.args.p + 1 + (q - c.args.p) ≡ q + 1 = omega arith in ap (λ z. get_or s.rows z no_row) e)) (λ q a. h.1 q no_row a)
