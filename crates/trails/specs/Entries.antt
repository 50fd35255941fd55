-- What a list of entries stands for: a trail, whose newest entry stands first.
use Rattle.std.specs.Prelude.{◌≡◌, ℕ, List, [], ◌∷◌, ◌++◌, map, reverse, Some, None, Option}
use Rattle.calculus.specs.Trails as calculus
use Rattle.trails.specs.declared.entry.Reason.{Reason}
use Rattle.trails.specs.declared.entry.Reason.TheVariants.{Decided, Forced}
use Rattle.trails.specs.declared.entry.Entry.{Entry}

abbrev pub reason_of : Reason → calculus.Reason
reason_of Decided = calculus.decided
reason_of (Forced i) = calculus.forced i

abbrev pub entry_of : Entry → calculus.Entry
entry_of e = record { literal = e.literal; level = e.level; reason = reason_of e.reason }

-- What stands where no entry does.
abbrev pub no_entry : calculus.Entry
no_entry = record { literal = 0; level = 0; reason = calculus.decided }

-- The trail of some entries, oldest first.
unfoldable pub trail_of : List Entry → calculus.Trail
trail_of es = map entry_of (reverse es)

-- The trail t with one literal more, at the level that its reason gives it.
abbrev pub joined : ℕ → Reason → calculus.Trail → calculus.Trail
joined l r t = record { literal = l; level = calculus.opened (reason_of r) (calculus.level t); reason = reason_of r } ∷ t

abbrev pub tail_of : calculus.Trail → calculus.Trail
tail_of [] = []
tail_of (e ∷ t) = t

-- The entry that joined last, if there is one.
abbrev pub Top : calculus.Trail → Option Entry → Type 0
Top t None = t ≡ []
Top t (Some e) = t ≡ entry_of e ∷ tail_of t

-- The literals of a trail, oldest first.
unfoldable pub literals_in : calculus.Trail → List ℕ
literals_in [] = []
literals_in (e ∷ t) = literals_in t ++ (e.literal ∷ [])
