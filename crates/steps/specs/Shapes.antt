-- What the work of a search stands for, and what each rule of the calculus makes of that.
use Rattle.std.specs.Prelude.{◌≡◌, ℕ, ◌+◌, ◌-◌, ◌*◌, ◌<◌, Bool, true, false, cond, not, ◌&&◌, List, [], ◌∷◌, ◌++◌, length, Some, None, Option, nat_le, nat_lt, slice_index_or}
use Rattle.std.proofs.Math.Option as core
use Rattle.cases.specs.Literals.{Literals, complement}
use Rattle.calculus.specs.Scans.{first, remove}
use Rattle.calculus.specs.Trails as calculus
use Rattle.calculus.specs.States.{up}
use Rattle.calculus.specs.Learned.{is_reason, leaving, renamed}
use Rattle.calculus.specs.Steps.{at_level, can_backtrack}
use Rattle.literals.specs.declared.LiteralSet.{LiteralSet}
use Rattle.literals.specs.Members.{member}
use Rattle.trails.specs.declared.entry.Reason.{Reason}
use Rattle.trails.specs.Entries.{joined, tail_of}
use Rattle.trails.specs.Trails.{listed}
use Rattle.tables.specs.Rows.{Noted, nothing_noted, marked}
use Rattle.tables.specs.Learned.{rows_of, rules_learned}
use Rattle.steps.specs.declared.held.Work.{Work}

-- The work without what it keeps to itself.
pub record Shape : Type 0 where
  pub trail : calculus.Trail
  pub conflict : core.Option Literals
  pub choice : Literals
  pub learned : List Literals
  pub conflicts : ℕ
  pub steps : ℕ

abbrev pub conflict_of : Option LiteralSet → core.Option Literals
conflict_of None = core.none
conflict_of (Some s) = core.some (member s)

abbrev pub shape : Work → Shape
shape t =
    record {
      trail = listed t.trail;
      conflict = conflict_of t.conflict;
      choice = member t.choice;
      learned = rules_learned (rows_of t.learned);
      conflicts = t.conflicts;
      steps = t.steps;
    }

-- Each row notes whether it is a reason; the rows begin at the place `base`.
abbrev pub Right : ℕ → Work → Type 0
Right base t =
    (j : ℕ) → j < length (rows_of t.learned) → (slice_index_or (rows_of t.learned) j nothing_noted).reason ≡ is_reason (listed t.trail) (base + j)

abbrev pub blank : Shape
blank = record { trail = []; conflict = core.none; choice = λ _. false; learned = []; conflicts = 0; steps = 0 }

-- ConflSat and ConflOpt.
abbrev pub conflicting : Literals → Shape → Shape
conflicting D s =
    record { trail = s.trail; conflict = core.some D; choice = s.choice; learned = s.learned; conflicts = up s.conflicts; steps = up s.steps }

-- Improve.
abbrev pub improving : Literals → Shape → Shape
improving C s = record { trail = s.trail; conflict = core.none; choice = C; learned = s.learned; conflicts = s.conflicts; steps = up s.steps }

-- Propagate and Decide.
abbrev pub pushing : ℕ → Reason → Shape → Shape
pushing l r s =
    record { trail = joined l r s.trail; conflict = core.none; choice = s.choice; learned = s.learned; conflicts = s.conflicts; steps = up s.steps }

-- Skip and Resolve.
abbrev pub popping : Literals → Shape → Shape
popping D s =
    record { trail = tail_of s.trail; conflict = core.some D; choice = s.choice; learned = s.learned; conflicts = s.conflicts; steps = up s.steps }

-- Backtrack, where p is the place of the row that leaves.
abbrev pub backed : ℕ → Literals → ℕ → ℕ → ℕ → Shape → Shape
backed base D L i p s =
    let kept : List Literals = remove p s.learned in
    record {
      trail = record { literal = L; level = i; reason = calculus.forced (base + length kept) } ∷ renamed (base + p) (calculus.cut i s.trail);
      conflict = core.none;
      choice = s.choice;
      learned = kept ++ (D ∷ []);
      conflicts = s.conflicts;
      steps = up s.steps;
    }

abbrev pub backing : ℕ → Literals → ℕ → ℕ → Shape → Shape
backing base D L i s = backed base D L i (leaving base (calculus.cut i s.trail) s.learned) s

-- S has the literals of n options that the trail does not make false.
abbrev pub Live : ℕ → calculus.Trail → Literals → Type 0
Live n t S = (x : ℕ) → S x ≡ (nat_lt x (2 * n) && not (calculus.on t (complement x)))

-- The row that a reason names notes b.
abbrev pub mark_named : ℕ → calculus.Reason → Bool → List Noted → List Noted
mark_named base calculus.decided b rs = rs
mark_named base (calculus.forced i) b rs = cond (nat_le base i) (marked (i - base) b rs) rs

-- The rule that a reason names is the reason of a literal of the trail.
abbrev pub still_named : calculus.Trail → calculus.Reason → Bool
still_named t calculus.decided = false
still_named t (calculus.forced i) = is_reason t i

-- The one literal of D that has the trail's level, if there is just one and the level is not 0.
abbrev pub Asserted : ℕ → calculus.Trail → Literals → Option ℕ → Type 0
Asserted n t D None = can_backtrack n t D ≡ false
Asserted n t D (Some l) = (can_backtrack n t D ≡ true) × (l ≡ first (2 * n) (at_level t D (calculus.level t)))
