use Rattle.literals.specs.Members.{member}
use Rattle.literals.proofs.Digits.{member_and}
use Rattle.literals.proofs.LiteralSet.meet.Goals as goal

pub returns : goal.returns
unfolding member
returns c k = member_and c.args.self.now.bits c.args.other.now.bits k
