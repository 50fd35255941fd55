use Rattle.std.proofs.Common.{arith}
use Rattle.layers.specs.Facts.Layered.{room_told}
use Rattle.layers.specs.Opens.{open_room}
use Rattle.layers.specs.Facts.Opens.{open_rules}
use Rattle.layers.proofs.opened.OpenCase.rules.Goals as goal

pub returns-then-has_room : goal.returns-then-has_room
returns-then-has_room g c =
    let m = g.C.Case.meaning c.args.self.now.below in
    let room = room_told open_room m c.options-options.ensures c.rules-rules.ensures c.if-has_room.ensures in
    omega (arith, c.rules-rules.ensures, c.options-options.ensures, open_rules m room)
