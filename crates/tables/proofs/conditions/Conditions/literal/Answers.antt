use Rattle.std.proofs.Common.{◌≡◌, [], get_or, arith}
use Rattle.std.proofs.lemmas.Grind.{common_steps}
use Rattle.shortlists.specs.ShortLists.{items_in}
use Rattle.tables.specs.Conditions.{conditions_of}
use Rattle.tables.proofs.Facts.{literal_small}
use Rattle.tables.proofs.conditions.Conditions.literal.Goals as goal

pub returns-clause-small : goal.returns-clause-small
unfolding conditions_of
returns-clause-small c =
    let told : c.map_or.result ≡ get_or (get_or (conditions_of c.args.self.now) c.args.i []) c.args.j 255 = grind (arith, common_steps) in
    λ h. omega (arith, told, literal_small (items_in c.args.self.now.held) c.args.i c.args.j h)
