-- What a short list holds.
use Rattle.std.specs.Prelude.{ℕ, List, take}
use Rattle.shortlists.specs.declared.short_list.ShortList.{ShortList}

-- The items, oldest first.
abbrev pub items_in : {T : Type 0} {N : ℕ} → ShortList T N → List T
items_in s = take s.used s.cells
