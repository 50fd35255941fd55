use Rattle.std.proofs.Common.{◌≡◌, ℕ, ◌<◌, false}
use Rattle.cases.specs.Literals.{members}
use Rattle.literals.specs.Members.{member}
use Rattle.rules.specs.Force.{rule, row}
use Rattle.rules.specs.Scans.{forces}
use Rattle.rules.proofs.force.Rules.first_forcing.Given as goal

abbrev pub invariant-loop-r : goal.invariant-loop-r
invariant-loop-r g l = (q : ℕ) → q < l.r → forces (member l.set) (member l.settled) (members (rule l.self.force.now q)) ≡ false

abbrev pub invariant-loop-j : goal.invariant-loop-j
invariant-loop-j g l = (q : ℕ) → q < l.j → forces (member l.set) (member l.settled) (row l.self.learned.now q) ≡ false
