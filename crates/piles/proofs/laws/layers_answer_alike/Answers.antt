use Rattle.std.proofs.Common.{rules}
use Rattle.piles.proofs.AlikeLaw.{layers_alike}
use Rattle.piles.proofs.laws.layers_answer_alike.Goals as goal

pub returns : goal.returns
returns g c = layers_alike _ _ (search rules) (search rules)
