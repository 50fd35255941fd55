-- The groups that a layer holds.
use Rattle.std.specs.Prelude.{ℕ, List, map}
use Rattle.arrayvec.specs.ArrayVec.{ArrayVec}
use Rattle.layers.specs.declared.row.Row.{Row}
use Rattle.layers.specs.RowViews.{items_of}

abbrev pub lists_of : ArrayVec Row → List (List ℕ)
lists_of groups = map items_of groups.items
