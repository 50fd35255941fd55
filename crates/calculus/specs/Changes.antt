-- What the eight rules of the calculus make of a state. Each counts a step, and those that find a conflict count it.
use Rattle.std.specs.Prelude.{ℕ, zero, suc, ◌+◌, ◌*◌, Bool, cond, not, ◌&&◌, ◌||◌, List, [], ◌∷◌, ◌++◌, length, ◌==◌}
use Rattle.std.proofs.Math.Option.{none, some}
use Rattle.cases.specs.Literals.{Literals, complement}
use Rattle.cases.specs.Meanings.{Sound}
use Rattle.charges.specs.Kinds.{Kind}
use Rattle.charges.specs.Charges.{price_of, charge}
use Rattle.calculus.specs.Scans.{remove}
use Rattle.calculus.specs.Trails.{Reason, forced, Trail, on, cut}
use Rattle.calculus.specs.States.{Best, State, up, in_force}
use Rattle.calculus.specs.Learned.{leaving, renamed}

-- ConflSat and ConflOpt: D becomes the conflict set.
unfoldable pub conflicted : {K : Kind} → State K → Literals → State K
conflicted s D =
    record { conditions = s.conditions; trail = s.trail; conflict = some D; best = s.best; learned = s.learned; conflicts = up s.conflicts; steps = up s.steps }

-- The complements of the whole trail.
unfoldable pub complements : Trail → Literals
complements t x = on t (complement x)

-- The choice of n options that a trail setting them all stands for.
unfoldable pub choice_of : ℕ → Literals → List Bool
choice_of zero S = []
choice_of (suc n) S = S 0 ∷ choice_of n (λ x. S (2 + x))

-- Improve: the trail becomes the best.
unfoldable pub best_of : (K : Kind) → Sound → Trail → Best K
best_of K m t = record { choice = choice_of m.options (on t); charge = charge K m (on t) }

unfoldable pub improved : {K : Kind} → Sound → State K → State K
improved {K} m s =
    record { conditions = s.conditions; trail = s.trail; conflict = none; best = some (best_of K m s.trail); learned = s.learned; conflicts = s.conflicts; steps = up s.steps }

-- Propagate and Decide: the literal l joins at level k for the reason r.
unfoldable pub pushed : {K : Kind} → State K → ℕ → ℕ → Reason → State K
pushed s l k r =
    record { conditions = s.conditions; trail = record { literal = l; level = k; reason = r } ∷ s.trail; conflict = none; best = s.best; learned = s.learned; conflicts = s.conflicts; steps = up s.steps }

-- Option v is decided on if the price of on is strictly below that of off, else off.
unfoldable pub decision : (K : Kind) → Sound → ℕ → ℕ
decision K m v = cond (not (K.not_above (price_of K m (2 * v + 1)) (price_of K m (2 * v)))) (2 * v) (2 * v + 1)

-- Skip and Resolve: the trail's last literal goes, so that t is left, with the conflict set D.
unfoldable pub popped : {K : Kind} → State K → Trail → Literals → State K
popped s t D =
    record { conditions = s.conditions; trail = t; conflict = some D; best = s.best; learned = s.learned; conflicts = s.conflicts; steps = up s.steps }

-- The conflict set D, where the complement of l is replaced by the other literals of its reason C.
unfoldable pub resolved : Literals → ℕ → Literals → Literals
resolved D l C x = (D x && not (x == complement l)) || (C x && not (x == l))

-- Backtrack: levels above i leave the trail, a full table drops a row, the set D is learned, and its literal L joins at
-- level i with that reason.
unfoldable pub backtracked : {K : Kind} → Sound → State K → Literals → ℕ → ℕ → State K
backtracked m s D L i =
    let r : ℕ = length (in_force m s) in
    let t : Trail = cut i s.trail in
    let p : ℕ = leaving r t s.learned in
    let kept : List Literals = remove p s.learned in
    record {
      conditions = s.conditions;
      trail = record { literal = L; level = i; reason = forced (r + length kept) } ∷ renamed (r + p) t;
      conflict = none;
      best = s.best;
      learned = kept ++ (D ∷ []);
      conflicts = s.conflicts;
      steps = up s.steps;
    }
