-- The wishes that a layer holds.
use Rattle.std.specs.Prelude.{List, map}
use Rattle.arrayvec.specs.ArrayVec.{ArrayVec}
use Rattle.wishes.specs.declared.held.HeldWish.{HeldWish}
use Rattle.layers.specs.RowViews.{items_of}
use Rattle.wishes.specs.Wishes.{Wish}

abbrev pub wish_of : HeldWish → Wish
wish_of w = record { literals = items_of w.literals; amount = w.amount }

abbrev pub wishes_in : ArrayVec HeldWish → List Wish
wishes_in wishes = map wish_of wishes.items
