use Rattle.literals.specs.Members.{member}
use Rattle.literals.proofs.Digits.{zero_none}
use Rattle.literals.proofs.LiteralSet.empty.Goals as goal

pub returns : goal.returns
unfolding member
returns c k = zero_none k
