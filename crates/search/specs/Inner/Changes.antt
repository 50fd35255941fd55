-- What adding and withdrawing make of the state.
use Rattle.std.specs.Prelude.{Bool, true, false, []}
use Rattle.std.proofs.Math.Option as core
use Rattle.charges.specs.Kinds.{Kind}
use Rattle.calculus.specs.States.{State}
use Rattle.steps.specs.Shapes.{Shape}

abbrev pub restarting : Shape → Shape
restarting s =
    record { trail = []; conflict = core.none; choice = s.choice; learned = s.learned; conflicts = 0; steps = 0 }

-- If the best breaks a rule, the best and all learned rules go.
abbrev pub forgetting : {K : Kind} → Bool → State K → State K
forgetting true s =
    record { conditions = s.conditions; trail = s.trail; conflict = s.conflict; best = core.none; learned = []; conflicts = s.conflicts; steps = s.steps }
forgetting false s = s
