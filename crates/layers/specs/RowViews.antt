-- The list that a row holds.
use Rattle.std.specs.Prelude.{ℕ, List}
use Rattle.layers.specs.declared.row.Row.{Row}
use Rattle.shortlists.specs.ShortLists.{items_in}

abbrev pub items_of : Row → List ℕ
items_of row = items_in row.items
