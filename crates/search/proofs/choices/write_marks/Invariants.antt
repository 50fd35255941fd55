use Rattle.std.proofs.Common.{◌≡◌, false, ◌++◌, get_or, drop}
use Rattle.cases.specs.Counted.{counted}
use Rattle.search.proofs.Choosing.{mark_of}
use Rattle.search.proofs.choices.write_marks.Given as goal

abbrev pub invariant-loop-v : goal.invariant-loop-v
invariant-loop-v l = l.out ≡ counted (λ v. mark_of (get_or l.choice v false)) l.v ++ drop l.v l.initial.out
