-- What a learned row stands for: a set of literals, with the note whether it is a reason.
use Rattle.std.specs.Prelude.{ℕ, zero, suc, Bool, false, List, [], ◌∷◌, drop, slice_index_or}
use Rattle.cases.specs.Literals.{Literals}
use Rattle.literals.specs.declared.LiteralSet.{LiteralSet}
use Rattle.literals.specs.Members.{member}
use Rattle.tables.specs.declared.learned.Row.{Row}

pub record Noted : Type 0 where
  pub literals : Literals
  pub reason : Bool

abbrev pub noted : LiteralSet → Bool → Noted
noted s b = record { literals = member s; reason = b }

abbrev pub row_of : Row → Noted
row_of r = noted r.literals r.reason

-- What is read past the end.
abbrev pub no_row : Row
no_row = record { literals = record { bits = 0 }; reason = false }

abbrev pub nothing_noted : Noted
nothing_noted = record { literals = λ _. false; reason = false }

-- Row j notes b; where there is no such row nothing changes.
unfoldable pub marked : ℕ → Bool → List Noted → List Noted
marked j b [] = []
marked zero b (r ∷ rs) = record { literals = r.literals; reason = b } ∷ rs
marked (suc j) b (r ∷ rs) = r ∷ marked j b rs

-- Each row notes what stands for it in a list, and false past its end.
unfoldable pub noting : List Bool → List Noted → List Noted
noting bs [] = []
noting bs (r ∷ rs) = record { literals = r.literals; reason = slice_index_or bs 0 false } ∷ noting (drop 1 bs) rs
