use Rattle.literals.specs.Members.{member}
use Rattle.literals.proofs.Digits.{member_or}
use Rattle.literals.proofs.LiteralSet.union.Goals as goal

pub returns : goal.returns
unfolding member
returns c k = member_or c.args.self.now.bits c.args.other.now.bits k
