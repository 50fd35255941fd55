-- The state of the definition that a search stands for.
use Rattle.std.proofs.Math.Option as core
use Rattle.std.specs.Prelude.{ℕ, List, length, Some, None, Option}
use Rattle.cases.specs.Literals.{Literals}
use Rattle.cases.specs.Meanings.{Meaning}
use Rattle.charges.specs.Kinds.{Kind}
use Rattle.calculus.specs.States.{Best, State}
use Rattle.calculus.specs.Changes.{choice_of}
use Rattle.rules.specs.Force.{InForce, put_in_force, rules_in}
use Rattle.steps.specs.declared.held.Tables.{Tables}
use Rattle.steps.specs.declared.held.Work.{Work}
use Rattle.steps.specs.Shapes.{Shape, shape, Right}

-- The best of n options, from its charge and the literals of its choice.
abbrev pub best_seen : (K : Kind) → ℕ → Option K.charges → Literals → core.Option (Best K)
best_seen K n None C = core.none
best_seen K n (Some k) C = core.some (record { choice = choice_of n C; charge = k })

abbrev pub state : (K : Kind) → ℕ → List (List ℕ) → Option K.charges → Shape → State K
state K n cs b s =
    record { conditions = cs; trail = s.trail; conflict = s.conflict; best = best_seen K n b s.choice; learned = s.learned; conflicts = s.conflicts; steps = s.steps }

-- The state of a search that goes by f, from the charge of its best and its work.
abbrev pub working : (K : Kind) → InForce → Option K.charges → Work → State K
working K f b w = state K f.pile.options f.conditions b (shape w)

-- The same from its tables.
abbrev pub seen : (K : Kind) → Meaning → Option K.charges → Tables → State K
seen K p b t = working K (put_in_force p t.conditions) b t.work

-- Each row notes whether it is a reason.
abbrev pub NotedRight : Meaning → Tables → Type 0
NotedRight p t = Right (length (rules_in p t.conditions)) t.work
