use Rattle.std.proofs.Common.{◌<◌, false, length, get_or, ap, ◌∙◌, arith, below_more}
use Rattle.std.proofs.lemmas.List.{get_or-set_same, get_or-set_other, get_or_append_left, get_or-take, length-take-le}
use Rattle.tables.specs.declared.learned.Row.{Row}
use Rattle.tables.specs.Rows.{no_row}
use Rattle.tables.proofs.learned.acts.note_rows.Goals as goal

pub loop-j-preserved : goal.loop-j-preserved
loop-j-preserved c =
    let rs = c.loop-j.row-items in
    let j = c.loop-j.j in
    let b = get_or c.args.reasons.now j false in
    let x : Row = record { literals = (get_or rs j no_row).literals; reason = b } in
    let inside : j < length rs = omega (arith, c.loop-j.auto.row-items, c.loop-j-test.true) in
    record {
      done = below_more _ _ (λ k l. get_or-set_other rs j k x no_row (omega arith) ∙ c.loop-j.invariant.done k l)
          (get_or-set_same rs j x no_row inside ∙ ap (λ (r : Row). record { literals = r.literals; reason = b }) (c.loop-j.invariant.left j (omega arith)));
      left = λ k l. get_or-set_other rs j k x no_row (omega arith) ∙ c.loop-j.invariant.left k (omega arith);
    }

pub returns : goal.returns
returns c k l =
    let rs = c.args.rows.now in
    let full = length-take-le c.args.len rs c.requires.in_rows in
    let inside : k < length c.loop-j.row-items = omega (arith, full, c.loop-j.auto.row-items) in
    get_or_append_left c.loop-j.row-items _ no_row k inside ∙ c.loop-j.invariant.done k (omega (arith, full, c.loop-j-test.false))
    ∙ ap (λ (r : Row). record { literals = r.literals; reason = get_or c.args.reasons.now k false }) (get_or-take c.args.len rs k no_row l)
