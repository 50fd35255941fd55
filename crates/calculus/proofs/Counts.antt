-- The counts of a search, from the invariant: what they are at most, that the cap is never reached, and what each rule adds to them.
use Rattle.std.proofs.Common.{◌≡◌, ℕ, suc, ◌+◌, ◌*◌, ◌^◌, ◌<◌, ◌≤◌, not, ◌&&◌, refl, ◌∙◌, mul-le-mul_right, mul-le-mul, arith, pow_mono}
use mathlib.Core.Option.{Option, none, some}
use Rattle.cases.specs.Meanings.{Sound, sound}
use Rattle.cases.specs.Literals.{Literals}
use Rattle.cases.specs.Limits.{Limited}
use Rattle.charges.specs.Kinds.{Kind}
use Rattle.calculus.specs.Scans.{any}
use Rattle.calculus.specs.Trails.{unset, on}
use Rattle.calculus.specs.States.{State, most, clause, clauses}
use Rattle.calculus.specs.Changes.{conflicted, improved, pushed, popped, backtracked, complements}
use Rattle.calculus.specs.Calculus.{Rule, Moves, ConflSat, confl_sat, ConflOpt, confl_opt, Improve, improve, Propagate, propagate, Decide, decide, Backtrack, backtrack, Skip, skip, Resolve, resolve}
use Rattle.calculus.specs.Priority.{is_conflict}
use Rattle.calculus.specs.Steps.{best_not_above}
use Rattle.calculus.specs.Promises.{enough}
use Rattle.calculus.proofs.Scans.{bit_le}
use Rattle.calculus.proofs.Trails.{short, spent_le, room_pos}
use Rattle.calculus.proofs.Invariant.{Inv}
use Rattle.calculus.proofs.Keeping.{up_exact}

module _ (K : Kind) (m : Sound) (s : State K) (inv : Inv K m s) where
  counted : (o : Option Literals) → s.conflict ≡ o → (s.conflicts ≤ 2 ^ m.options) × (s.steps < enough m)
  counted none e =
      let n = m.options in
      let i = inv.idle e in
      let len = short n s.trail inv.distinct in
      let all = spent_le n s.trail len in
      let pos = room_pos n s.trail in
      let j = bit_le (not (any n (unset s.trail)) && best_not_above K m s.best (on s.trail)) in
      let c : suc s.conflicts ≤ 2 ^ n = omega (arith, i.0) in
      (omega arith, omega (arith, i.1, mul-le-mul_right (2 * n + 3) c))
  counted (some D) e =
      let n = m.options in
      let b = inv.busy D e in
      let all = spent_le n s.trail (short n s.trail inv.distinct) in
      let c : s.conflicts ≤ 2 ^ n = omega (arith, b.0) in
      (c, omega (arith, b.1, mul-le-mul_right (2 * n + 3) c))

  pub few_counts : (s.conflicts ≤ 2 ^ m.options) × (s.steps < enough m)
  few_counts = counted s.conflict refl

enough_small : (n : ℕ) → n ≤ 56 → 2 ^ n * (2 * n + 3) ≤ 2 ^ 56 * 115
enough_small n h = let k : 2 * n + 3 ≤ 115 = omega arith in mul-le-mul (pow_mono {i = n} {j = 56} h) k

pub room_left : (K : Kind) (m : Sound) → Limited (sound m) → (s : State K) → Inv K m s → s.steps < most
room_left K m limited s inv = omega (arith, (few_counts K m s inv).1, enough_small m.options limited.few_options)

pub conflicts_left : (K : Kind) (m : Sound) → Limited (sound m) → (s : State K) → Inv K m s → s.conflicts < most
conflicts_left K m limited s inv = omega (arith, (few_counts K m s inv).0, pow_mono {i = m.options} {j = 56} limited.few_options)

-- What a move does to the counts, where there is room, and to the conditions.
pub record Counted (K : Kind) (q : Rule) (s u : State K) : Type 0 where
  pub steps : u.steps ≡ suc s.steps
  pub conflicts : u.conflicts ≡ s.conflicts + is_conflict q
  pub conditions : u.conditions ≡ s.conditions

module _ (K : Kind) (m : Sound) (s : State K) (h : s.steps < most) (k : s.conflicts < most) where
  counts_conflict : (q : Rule) (D : Literals) → is_conflict q ≡ 1 → Counted K q s (conflicted s D)
  unfolding conflicted
  counts_conflict q D e = record { steps = up_exact s.steps h; conflicts = up_exact s.conflicts k ∙ omega arith; conditions = refl }

  pub move_counts : (q : Rule) (u : State K) → Moves K m s q u → Counted K q s u
  unfolding improved pushed popped backtracked
  move_counts ConflSat u (confl_sat i c w) = counts_conflict ConflSat (clause (clauses m s) i) refl
  move_counts ConflOpt u (confl_opt b c q z) = counts_conflict ConflOpt (complements s.trail) refl
  move_counts Improve u (improve c f) = record { steps = up_exact s.steps h; conflicts = omega arith; conditions = refl }
  move_counts Propagate u (propagate i l c w f) = record { steps = up_exact s.steps h; conflicts = omega arith; conditions = refl }
  move_counts Decide u (decide v c w) = record { steps = up_exact s.steps h; conflicts = omega arith; conditions = refl }
  move_counts Backtrack u (backtrack D L i c a) = record { steps = up_exact s.steps h; conflicts = omega arith; conditions = refl }
  move_counts Skip u (skip D e t c w q z) = record { steps = up_exact s.steps h; conflicts = omega arith; conditions = refl }
  move_counts Resolve u (resolve D e t i c q z w) = record { steps = up_exact s.steps h; conflicts = omega arith; conditions = refl }
