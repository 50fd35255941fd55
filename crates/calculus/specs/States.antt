-- The state of a search, and the rules that it goes by.
use Rattle.std.specs.Prelude.{ℕ, ◌+◌, min, Bool, false, List, [], ◌++◌, map, slice_index_or}
use Rattle.std.proofs.Math.Option.{Option, none}
use Rattle.cases.specs.Literals.{Literals, members}
use Rattle.cases.specs.Meanings.{Sound}
use Rattle.charges.specs.Kinds.{Kind}
use Rattle.calculus.specs.Trails.{Trail}

-- The best choice, with its charge.
pub record Best (K : Kind) : Type 0 where
  pub choice : List Bool
  pub charge : K.charges

-- Conditions and learned rules stand oldest first. The counts are those since the last zeroing.
pub record State (K : Kind) : Type 0 where
  pub conditions : List (List ℕ)
  pub trail : Trail
  pub conflict : Option Literals
  pub best : Option (Best K)
  pub learned : List Literals
  pub conflicts : ℕ
  pub steps : ℕ

-- A search whose trail is empty, that has no conflict set and counts 0.
unfoldable pub restarted : {K : Kind} → List (List ℕ) → Option (Best K) → List Literals → State K
restarted conditions best learned =
    record { conditions = conditions; trail = []; conflict = none; best = best; learned = learned; conflicts = 0; steps = 0 }

-- A new search.
unfoldable pub fresh : {K : Kind} → State K
fresh = restarted [] none []

-- Counts have 64 bits: they stop at the greatest number, which no search reaches.
abbrev pub most : ℕ
most = 18446744073709551615

unfoldable pub up : ℕ → ℕ
up x = min (x + 1) most

-- The rules in force: the pile's in order, then the conditions, oldest first.
unfoldable pub in_force : {K : Kind} → Sound → State K → List (List ℕ)
in_force m s = m.rules ++ s.conditions

-- The rules in force and then the learned ones, oldest first, each as a set: the order in which a rule is the first.
unfoldable pub clauses : {K : Kind} → Sound → State K → List Literals
clauses m s = map members (in_force m s) ++ s.learned

-- The one at place i.
unfoldable pub clause : List Literals → ℕ → Literals
clause cs i = slice_index_or cs i (λ _. false)
