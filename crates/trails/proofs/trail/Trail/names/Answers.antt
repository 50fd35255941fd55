use Rattle.std.proofs.Common.{rules, sym, ◌∙◌}
use borrow.Author.Tests.{tests}
use Rattle.std.proofs.lemmas.Iterator.{YieldsList-from_slice}
use Rattle.std.proofs.lemmas.Iterator.Search.{any_from_yields_List}
use Rattle.calculus.specs.Learned.{is_place}
use Rattle.shortlists.specs.ShortLists.{items_in}
use Rattle.trails.specs.Entries.{reason_of}
use Rattle.trails.proofs.Entries.{is_reason_trail}
use Rattle.trails.proofs.trail.Trail.names.Goals as goal

pub returns : goal.returns
returns c =
    let es = (items_in c.args.self.now.entries) in
    any_from_yields_List (λ e. is_place (reason_of e.reason) c.args.place) _ _ c.any.result c.any.ensures.ran
    (YieldsList-from_slice es (c.iter.ensures.rest ∙ c.deref.ensures.0)) (λ x b q k. search (rules, tests))
    ∙ sym (is_reason_trail es c.args.place)
