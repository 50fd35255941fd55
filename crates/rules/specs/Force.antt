-- The rules that a search goes by.
use Rattle.std.specs.Prelude.{ℕ, List, [], ◌++◌, map, slice_index_or}
use Rattle.cases.specs.Literals.{Literals, members}
use Rattle.cases.specs.Meanings.{Meaning, Sound}
use Rattle.charges.specs.Charges.{contents}
use Rattle.tables.specs.declared.conditions.Conditions.{Conditions}
use Rattle.tables.specs.declared.learned.Learned.{Learned}
use Rattle.tables.specs.Conditions.{conditions_of}
use Rattle.tables.specs.Rows.{nothing_noted}
use Rattle.tables.specs.Learned.{rows_of, rules_learned}

-- What a search goes by: what its pile tells, and its conditions, oldest first.
pub record InForce : Type 0 where
  pub pile : Sound
  pub conditions : List (List ℕ)

-- What a pile that means p and the conditions c put in force.
abbrev pub put_in_force : Meaning → Conditions → InForce
put_in_force p c = record { pile = contents p; conditions = conditions_of c }

-- The rules in force: the pile's in order, then the conditions.
abbrev pub all_rules : InForce → List (List ℕ)
all_rules f = f.pile.rules ++ f.conditions

-- The rules in force of such a pile and such conditions.
abbrev pub rules_in : Meaning → Conditions → List (List ℕ)
rules_in p c = all_rules (put_in_force p c)

-- Rule r; the empty one where there is none.
abbrev pub rule : InForce → ℕ → List ℕ
rule f r = slice_index_or (all_rules f) r []

-- Learned rule j, as a set; the empty one where there is none.
abbrev pub row : Learned → ℕ → Literals
row l j = (slice_index_or (rows_of l) j nothing_noted).literals

-- The rules in force and then the learned ones, oldest first, each as a set.
abbrev pub all_clauses : InForce → Learned → List Literals
all_clauses f l = map members (all_rules f) ++ rules_learned (rows_of l)
