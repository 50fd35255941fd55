-- The rows of the learned table, oldest first.
use Rattle.std.specs.Prelude.{List, map, take}
use Rattle.cases.specs.Literals.{Literals}
use Rattle.tables.specs.Rows.{Noted, row_of}
use Rattle.tables.specs.declared.learned.Learned.{Learned}

unfoldable pub rows_of : Learned → List Noted
rows_of l = map row_of (take l.len l.rows)

-- The learned rules alone.
abbrev pub rules_learned : List Noted → List Literals
rules_learned rs = map (λ r. r.literals) rs
