use Rattle.std.proofs.Common.{◌≡◌, ℕ, ◌<◌, ◌≤◌, false, get_or}
use Rattle.tables.specs.Rows.{no_row}
use Rattle.tables.proofs.learned.acts.note_rows.Given as goal

-- the rows before j have their notes, and the others are as they were
abbrev pub invariant-loop-j : goal.invariant-loop-j
invariant-loop-j l =
    record {
      done : (k : ℕ) → k < l.j → get_or l.row-items k no_row ≡ record { literals = (get_or l.initial.row-items k no_row).literals; reason = get_or l.reasons k false };
      left : (k : ℕ) → l.j ≤ k → get_or l.row-items k no_row ≡ get_or l.initial.row-items k no_row;
    }
