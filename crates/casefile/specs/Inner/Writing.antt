-- Writing into a buffer at a place.
use Rattle.std.specs.Prelude.{◌≡◌, ℕ, ◌+◌, ◌≤◌, List, ◌++◌, length, take, drop}
use Rattle.casefile.specs.declared.writer.Cursor.{Cursor}

-- The list `old` with ys written over it from the place `at` on.
abbrev pub over : {X : Type 0} → ℕ → List X → List X → List X
over at old ys = take at old ++ (ys ++ drop (at + length ys) old)

-- There is room for ys where the cursor stands.
abbrev pub Room : Cursor → List ℕ → Type 0
Room w ys = w.at + length ys ≤ length w.out.now

-- The cursor u is w after ys is written: the same buffer, with ys at its place, and the place after it.
pub record Wrote (w : Cursor) (ys : List ℕ) (u : Cursor) : Type 0 where
  pub same : u.out.ghost_name ≡ w.out.ghost_name
  pub bytes : u.out.now ≡ over w.at w.out.now ys
  pub place : u.at ≡ w.at + length ys
