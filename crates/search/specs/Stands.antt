-- The state of the definition that a search stands for.
use Rattle.cases.specs.Meanings.{Meaning}
use Rattle.cases.specs.declared.case.Case.{Ghosts as CaseGhosts}
use Rattle.charges.specs.declared.charge.Charge.{Ghosts as ChargeGhosts}
use Rattle.charges.specs.Kinds.{Kind}
use Rattle.calculus.specs.States.{State}
use Rattle.steps.specs.States.{seen}
use Rattle.search.specs.declared.search.Search.{Search}

abbrev pub stands : {P : Type 0} {C : CaseGhosts P} (K : Kind) {D : ChargeGhosts K.charges} → Meaning → Search P K.charges C D → State K
stands K p s = seen K p s.best s.tables
