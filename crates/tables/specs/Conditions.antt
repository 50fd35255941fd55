-- The conditions of a search, oldest first, each as a list of literals.
use Rattle.std.specs.Prelude.{ℕ, Bool, ◌&&◌, List, map, length, nat_le, nat_lt}
use Rattle.layers.specs.Rows.{past_all}
use Rattle.layers.specs.RowViews.{items_of}
use Rattle.calculus.specs.Checks.{most_conditions, longest_condition}
use Rattle.shortlists.specs.ShortLists.{items_in}
use Rattle.tables.specs.declared.conditions.Condition.{Condition}
use Rattle.tables.specs.declared.conditions.Conditions.{Conditions}

abbrev pub literals_of : Condition → List ℕ
literals_of c = items_of c.literals

unfoldable pub conditions_of : Conditions → List (List ℕ)
conditions_of c = map literals_of (items_in c.held)

-- There is room for one more, and the list is short enough and has only numbers that can be literals.
abbrev pub can_hold : List (List ℕ) → List ℕ → Bool
can_hold cs r = nat_lt (length cs) most_conditions && (nat_le (length r) longest_condition && nat_le (past_all r) 128)
