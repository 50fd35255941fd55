-- The calculus: its eight rules, each with what it asks of a state and what it makes of it.
use Rattle.std.specs.Prelude.{◌≡◌, ℕ, suc, ◌*◌, ◌<◌, ◌≤◌, true, false, ◌⊎◌, List, [], ◌∷◌, length, ◌≢◌}
use Rattle.std.proofs.Math.Option.{none, some}
use Rattle.cases.specs.Literals.{Literals, complement}
use Rattle.cases.specs.Meanings.{Sound}
use Rattle.charges.specs.Kinds.{Kind}
use Rattle.charges.specs.Charges.{charge}
use Rattle.calculus.specs.Trails.{Reason, decided, forced, Entry, Trail, on, unset, level, level_of}
use Rattle.calculus.specs.States.{Best, State, clauses, clause}
use Rattle.calculus.specs.Changes.{conflicted, complements, improved, pushed, decision, popped, resolved, backtracked}

-- The trail sets the complements of all literals of C, of those that p lets through.
abbrev pub FalseBut : ℕ → Trail → Literals → (ℕ → Type 0) → Type 0
FalseBut n t C p = (x : ℕ) → x < 2 * n → C x ≡ true → p x → on t (complement x) ≡ true

-- A rule is false if the trail sets the complements of all its literals.
abbrev pub FalseUnder : ℕ → Trail → Literals → Type 0
FalseUnder n t C = (x : ℕ) → x < 2 * n → C x ≡ true → on t (complement x) ≡ true

-- A literal of one of the n options, which the trail leaves unset.
pub record Free (n : ℕ) (t : Trail) (l : ℕ) : Type 0 where
  pub in_range : l < 2 * n
  pub not_set : on t l ≡ false
  pub not_false : on t (complement l) ≡ false

-- The rule C has the unset literal l, and its others are false.
pub record Forces (n : ℕ) (t : Trail) (C : Literals) (l : ℕ) : Type 0 where
  pub in_rule : C l ≡ true
  pub is_free : Free n t l
  pub others_false : FalseBut n t C (λ x. x ≢ l)

-- The trail sets all n options.
abbrev pub AllSet : ℕ → Trail → Type 0
AllSet n t = (v : ℕ) → v < n → unset t v ≡ false

-- Option v is the lowest that the trail leaves unset.
pub record LowestUnset (n : ℕ) (t : Trail) (v : ℕ) : Type 0 where
  pub in_range : v < n
  pub is_unset : unset t v ≡ true
  pub lower_set : (w : ℕ) → w < v → unset t w ≡ false

-- The rule at place i is the first for which P holds.
pub record First (P : Literals → Type 0) (cs : List Literals) (i : ℕ) : Type 0 where
  pub in_list : i < length cs
  pub holds : P (clause cs i)
  pub not_before : (j : ℕ) → j < i → P (clause cs j) → ⊥

-- The conflict set D has a literal.
abbrev pub Nonempty : ℕ → Literals → Type 0
Nonempty n D = (x : ℕ) × (x < 2 * n) × (D x ≡ true)

-- L is the one literal of the conflict set D that has level k, which is at least 1; and i is the greatest level of the
-- others, or 0. A literal of D has the level of its complement on the trail.
pub record Asserts (n : ℕ) (t : Trail) (D : Literals) (L i : ℕ) : Type 0 where
  pub not_ground : 1 ≤ level t
  pub in_range : L < 2 * n
  pub in_set : D L ≡ true
  pub at_top : level_of t (complement L) ≡ level t
  pub alone : (x : ℕ) → x < 2 * n → D x ≡ true → level_of t (complement x) ≡ level t → x ≡ L
  pub others : (x : ℕ) → x < 2 * n → D x ≡ true → (x ≢ L) → level_of t (complement x) ≤ i
  pub reached : (i ≡ 0) ⊎ ((x : ℕ) × (x < 2 * n) × (D x ≡ true) × (x ≢ L) × (level_of t (complement x) ≡ i))

-- The reason of a forced literal is a rule that has it, and whose others are false by the older literals.
abbrev pub Because : ℕ → List Literals → Trail → ℕ → Reason → Type 0
Because n cs t l decided = Unit {0}
Because n cs t l (forced i) = (i < length cs) × (clause cs i l ≡ true) × FalseBut n t (clause cs i) (λ x. x ≢ l)

abbrev pub Reasoned : ℕ → List Literals → Trail → Type 0
Reasoned n cs [] = Unit {0}
Reasoned n cs (e ∷ t) = Because n cs t e.literal e.reason × Reasoned n cs t

-- The eight rules of the calculus by name, and their order.
pub data Rule : Type 0 where
  ConflSat ConflOpt Improve Propagate Decide Backtrack Skip Resolve : Rule

abbrev pub order : Rule → ℕ
order ConflSat = 1
order ConflOpt = 2
order Improve = 3
order Propagate = 4
order Decide = 5
order Backtrack = 6
order Skip = 7
order Resolve = 8

-- By the rule named, the state s can become another: one constructor for each, with its premises.
pub data Moves (K : Kind) (m : Sound) (s : State K) : Rule → State K → Type 0 where
  -- Without a conflict set.
  -- The first false rule becomes the conflict set.
  confl_sat : (i : ℕ) → s.conflict ≡ none → First (FalseUnder m.options s.trail) (clauses m s) i
      → Moves K m s ConflSat (conflicted s (clause (clauses m s) i))
  -- There is a best and it is not above the trail's charge: the complements of the whole trail become the conflict set.
  confl_opt : (b : Best K) → s.conflict ≡ none → s.best ≡ some b → K.not_above b.charge (charge K m (on s.trail)) ≡ true
      → Moves K m s ConflOpt (conflicted s (complements s.trail))
  -- A trail setting all options becomes the best.
  improve : s.conflict ≡ none → AllSet m.options s.trail → Moves K m s Improve (improved m s)
  -- The first rule with one unset literal, its others false, adds that literal at level k with that rule as reason.
  propagate : (i l : ℕ) → s.conflict ≡ none → First (λ C. (x : ℕ) × Forces m.options s.trail C x) (clauses m s) i
      → Forces m.options s.trail (clause (clauses m s) i) l → Moves K m s Propagate (pushed s l (level s.trail) (forced i))
  -- The lowest unset option opens level k + 1.
  decide : (v : ℕ) → s.conflict ≡ none → LowestUnset m.options s.trail v → Moves K m s Decide (pushed s (decision K m v) (suc (level s.trail)) decided)
  -- With a nonempty conflict set.
  -- The set is learned, and its one literal of level k joins at the greatest level of the others.
  backtrack : (D : Literals) (L i : ℕ) → s.conflict ≡ some D → Asserts m.options s.trail D L i → Moves K m s Backtrack (backtracked m s D L i)
  -- The trail's last literal goes if its complement is not in the set.
  skip : (D : Literals) (e : Entry) (t : Trail) → s.conflict ≡ some D → Nonempty m.options D → s.trail ≡ e ∷ t → D (complement e.literal) ≡ false
      → Moves K m s Skip (popped s t D)
  -- It goes, and its complement in the set is replaced by the reason's other literals.
  resolve : (D : Literals) (e : Entry) (t : Trail) (i : ℕ) → s.conflict ≡ some D → s.trail ≡ e ∷ t → D (complement e.literal) ≡ true → e.reason ≡ forced i
      → Moves K m s Resolve (popped s t (resolved D e.literal (clause (clauses m s) i)))
