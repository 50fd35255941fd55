-- One step as a function: the questions of the eight rules, in their order.
use Rattle.std.specs.Prelude.{ℕ, suc, ◌*◌, Bool, true, false, cond, not, ◌&&◌, [], ◌∷◌, length, ◌==◌, nat_le, nat_lt}
use Rattle.std.proofs.Math.Option.{Option, none, some}
use Rattle.cases.specs.Literals.{Literals, complement}
use Rattle.cases.specs.Meanings.{Sound}
use Rattle.cases.specs.Limits.{most_options}
use Rattle.charges.specs.Kinds.{Kind}
use Rattle.charges.specs.Charges.{charge}
use Rattle.calculus.specs.Scans.{any, first, count, greatest, place}
use Rattle.calculus.specs.Trails.{Reason, decided, forced, Entry, Trail, on, unset, level, level_of}
use Rattle.calculus.specs.States.{Best, State, clauses, clause}
use Rattle.calculus.specs.Changes.{conflicted, complements, improved, pushed, decision, popped, resolved, backtracked}

-- The literals of C that are not false under the trail. C is false if there are none.
unfoldable pub alive : Trail → Literals → Literals
alive t C x = C x && not (on t (complement x))

unfoldable pub is_false : ℕ → Trail → Literals → Bool
is_false n t C = not (any (2 * n) (alive t C))

-- One literal of C is unset and its others are false.
unfoldable pub is_unit : ℕ → Trail → Literals → Bool
is_unit n t C = count (2 * n) (alive t C) == 1 && not (on t (first (2 * n) (alive t C)))

-- There is a best, and it is not above the charge of S.
unfoldable pub best_not_above : (K : Kind) → Sound → Option (Best K) → Literals → Bool
best_not_above K m none S = false
best_not_above K m (some b) S = K.not_above b.charge (charge K m S)

-- The literals of the conflict set that have level k; each has the level of its complement on the trail.
unfoldable pub at_level : Trail → Literals → ℕ → Literals
at_level t D k x = D x && level_of t (complement x) == k

unfoldable pub can_backtrack : ℕ → Trail → Literals → Bool
can_backtrack n t D = nat_le 1 (level t) && count (2 * n) (at_level t D (level t)) == 1

unfoldable pub others : Literals → ℕ → Literals
others D L x = D x && not (x == L)

-- Each of the following takes the answer to its question as its last argument.

-- 4 and 5: Propagate, if there is a rule with one unset literal, its others false; else Decide.
unfoldable pub extend : (K : Kind) → Sound → State K → Option ℕ → State K
extend K m s (some i) = pushed s (first (2 * m.options) (alive s.trail (clause (clauses m s) i))) (level s.trail) (forced i)
extend K m s none = pushed s (decision K m (first m.options (unset s.trail))) (suc (level s.trail)) decided

-- A trail has as many places as a case can have options; no search needs more.
unfoldable pub extend_in : (K : Kind) → Sound → State K → Option ℕ → State K
extend_in K m s o = cond (nat_lt (length s.trail) most_options) (extend K m s o) s

-- 3: Improve, if no option is unset.
unfoldable pub complete : (K : Kind) → Sound → State K → Bool → State K
complete K m s true = extend_in K m s (place (is_unit m.options s.trail) (clauses m s))
complete K m s false = improved m s

-- 2: ConflOpt, if there is a best that is not above the trail's charge.
unfoldable pub compare_best : (K : Kind) → Sound → State K → Bool → State K
compare_best K m s true = conflicted s (complements s.trail)
compare_best K m s false = complete K m s (any m.options (unset s.trail))

-- 1: ConflSat, if there is a false rule.
unfoldable pub forward : (K : Kind) → Sound → State K → Option ℕ → State K
forward K m s (some i) = conflicted s (clause (clauses m s) i)
forward K m s none = compare_best K m s (best_not_above K m s.best (on s.trail))

-- 7 and 8: Skip, if the last literal's complement is not in the set; else Resolve with its reason. (No calls lead to a
-- state where the reason is missing or the trail has run out: there Backtrack applies, or the set is empty.)
unfoldable pub unwind : {K : Kind} → Sound → State K → Literals → Entry → Trail → Bool → Reason → State K
unwind m s D e t false r = popped s t D
unwind m s D e t true (forced i) = popped s t (resolved D e.literal (clause (clauses m s) i))
unwind m s D e t true decided = s

unfoldable pub back : {K : Kind} → Sound → State K → Literals → Trail → State K
back m s D [] = s
back m s D (e ∷ t) = unwind m s D e t (D (complement e.literal)) e.reason

-- 6: Backtrack, if just one literal of the set has level k, and k is at least 1.
unfoldable pub backward : {K : Kind} → Sound → State K → Literals → Bool → State K
backward m s D true =
    let n2 : ℕ = 2 * m.options in
    let L : ℕ = first n2 (at_level s.trail D (level s.trail)) in
    backtracked m s D L (greatest n2 (others D L) (λ x. level_of s.trail (complement x)))
backward m s D false = back m s D s.trail

unfoldable pub by_conflict : (K : Kind) → Sound → State K → Option Literals → State K
by_conflict K m s none = forward K m s (place (is_false m.options s.trail) (clauses m s))
by_conflict K m s (some D) = backward m s D (can_backtrack m.options s.trail D)

-- An empty conflict set closes the search.
unfoldable pub empty_set : ℕ → Option Literals → Bool
empty_set n none = false
empty_set n (some D) = not (any (2 * n) D)

unfoldable pub closed : {K : Kind} → Sound → State K → Bool
closed m s = empty_set m.options s.conflict

-- One step; a closed search stays as it is.
unfoldable pub step : (K : Kind) → Sound → State K → State K
step K m s = elim (closed m s) [ true ↦ s | false ↦ by_conflict K m s s.conflict ]
