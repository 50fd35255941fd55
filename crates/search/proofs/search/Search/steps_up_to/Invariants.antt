use Rattle.std.proofs.Common.{◌≡◌, ◌+◌, ◌-◌}
use Rattle.charges.specs.Generic.{kind_of}
use Rattle.charges.specs.Charges.{contents}
use Rattle.calculus.specs.Runs.{run_steps, steps_made}
use Rattle.search.specs.Stands.{stands}
use Rattle.search.proofs.search.Search.steps_up_to.Given as goal

abbrev pub invariant-loop-made : goal.invariant-loop-made
invariant-loop-made g l =
    let K = kind_of g.K.Charge in
    let p = g.P.Case.meaning l.initial.self.pile in
    (l.self.pile ≡ l.initial.self.pile)
    × (run_steps K (contents p) l.budget (stands K p l.initial.self) ≡ run_steps K (contents p) (l.budget - l.made) (stands K p l.self))
    × (steps_made K (contents p) l.budget (stands K p l.initial.self) ≡ l.made + steps_made K (contents p) (l.budget - l.made) (stands K p l.self))
