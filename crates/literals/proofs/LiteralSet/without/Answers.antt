use Rattle.std.proofs.Common.{arith}
use Rattle.literals.specs.Members.{member}
use Rattle.literals.proofs.Digits.{member_without}
use Rattle.literals.proofs.LiteralSet.without.Goals as goal

pub returns : goal.returns
unfolding member
returns c k = member_without c.args.self.now.bits c.args.other.now.bits k (omega arith) (omega arith)
