-- What a trail as the search holds it stands for.
use Rattle.std.specs.Prelude.{ℕ, Bool, not, ◌&&◌, length, nat_lt}
use Rattle.cases.specs.Limits.{most_options}
use Rattle.cases.specs.Literals.{complement}
use Rattle.calculus.specs.Trails as calculus
use Rattle.shortlists.specs.ShortLists.{items_in}
use Rattle.trails.specs.declared.trail.Trail.{Trail}
use Rattle.trails.specs.Entries.{trail_of}

abbrev pub listed : Trail → calculus.Trail
listed t = trail_of (items_in t.entries)

-- A literal can join: the trail is not full, it is a literal, and the trail leaves its option unset.
abbrev pub has_place : calculus.Trail → ℕ → Bool
has_place t l = nat_lt (length t) most_options && (nat_lt l 128 && (not (calculus.on t l) && not (calculus.on t (complement l))))
