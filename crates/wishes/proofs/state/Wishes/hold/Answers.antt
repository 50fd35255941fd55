use Rattle.std.proofs.Common.{List, ap, ◌∙◌}
use Rattle.cases.specs.Meanings.{is_oversize}
use Rattle.wishes.specs.Wishes.{Wish, wishing}
use Rattle.wishes.specs.Facts.WishLayers.{wishes_more}
use Rattle.wishes.proofs.state.Wishes.hold.Goals as goal

pub invariant_of-self-clause-fits : goal.invariant_of-self-clause-fits
invariant_of-self-clause-fits g c =
    let s = c.args.self.now in
    let more = wishes_more s.wishes c.push.new.self _ c.args.wish.now c.push.ensures.items c.of.ensures in
    λ _. ap (λ (ws : List Wish). is_oversize (wishing ws (g.C.Case.meaning s.below))) more ∙ c.requires.fits
