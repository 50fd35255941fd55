use Rattle.std.proofs.Common.{◌≡◌, ℕ, take}
use Rattle.cases.specs.Literals.{members}
use Rattle.literals.specs.Members.{member}
use Rattle.rules.specs.Force.{rule}
use Rattle.rules.proofs.force.Force.rule_set.Given as goal

abbrev pub invariant-loop-j : goal.invariant-loop-j
invariant-loop-j g l = (x : ℕ) → member l.set x ≡ members (take l.j (rule l.self l.r)) x
