use Rattle.std.proofs.Common.{◌≡◌, ℕ, ◌<◌, false, get_or}
use Rattle.cases.specs.Literals.{members}
use Rattle.literals.specs.Members.{member}
use Rattle.rules.specs.Force.{rule}
use Rattle.rules.specs.Scans.{misses}
use Rattle.rules.proofs.force.Force.missing_rule.Given as goal

-- each rule up to r has a literal in the set
abbrev pub invariant-rules : goal.invariant-rules
invariant-rules g l = (q : ℕ) → q < l.r → misses (member l.set) (members (rule l.self q)) ≡ false

-- no place of rule r up to j has
abbrev pub invariant-loop-j : goal.invariant-loop-j
invariant-loop-j g l = (q : ℕ) → q < l.j → member l.set (get_or (rule l.self l.r) q 255) ≡ false
