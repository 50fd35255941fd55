use Rattle.std.proofs.Common.{◌≡◌, ℕ, rules, cond, true, false, List, [], ◌∷◌, map, reverse, Some, None, Option, MatchOption, Bor, refl, ap, ◌∙◌}
use borrow.Author.Tests.{tests}
use Rattle.std.specs.List.{find}
use Rattle.std.specs.Option.{option_map}
use Rattle.std.specs.Slice.Iter.{iter_rest}
use Rattle.std.proofs.lemmas.Iterator.Adapters.{YieldsList-from_rev_slice}
use Rattle.std.proofs.lemmas.Iterator.Search.{find_from_yields_List}
use Rattle.cases.specs.Literals.{Literals, complement}
use Rattle.literals.specs.Members.{member}
use Rattle.shortlists.specs.ShortLists.{items_in}
use Rattle.trails.specs.declared.entry.Entry.{Entry}
use Rattle.trails.specs.Entries.{entry_of, trail_of}
use Rattle.trails.specs.Trails.{listed}
use Rattle.literals.proofs.Options.{at_value}
use Rattle.trails.proofs.Facts.{levelled, apart}
use Rattle.trails.proofs.Levels.{newest, newest_is}
use Rattle.trails.proofs.trail.Trail.greatest_level.Goals as goal

level_or : Option Entry → ℕ
level_or None = 0
level_or (Some e) = e.level

newest_found : (S : Literals) (es : List Entry) → level_or (find (λ e. S (complement e.literal)) es) ≡ newest S (map entry_of es)
unfolding level_or
newest_found S [] = refl
newest_found S (e ∷ es) =
    elim (S (complement e.literal)) as (λ b. level_or (cond b (Some e) (find (λ a. S (complement a.literal)) es)) ≡ cond b e.level (newest S (map entry_of es))) [ true ↦ refl | false ↦ newest_found S es ]

answered : (o : Option (Bor Entry)) (r : ℕ) → MatchOption o (r ≡ 0) (λ e. r ≡ e.now.level) → r ≡ level_or (option_map (λ e. e.now) o)
unfolding level_or
answered None r h = h
answered (Some e) r h = h

listed_newest : (S : Literals) (es : List Entry) (r : ℕ) → r ≡ newest S (map entry_of (reverse es)) → r ≡ newest S (trail_of es)
unfolding trail_of
listed_newest S es r h = h

pub returns : goal.returns
returns c =
    let t = c.args.self.now in
    let S = member c.args.set.now in
    let found = find_from_yields_List (λ e. S (complement e.literal)) _ _ c.find.result c.find.ensures.ran
    (YieldsList-from_rev_slice (items_in t.entries) (ap iter_rest c.rev.ensures.source ∙ c.iter.ensures.rest ∙ c.deref.ensures.0)) (λ x b q k. search (rules, tests))
    in
    listed_newest S (items_in t.entries) _ (answered c.find.result _ (at_value _ (λ e. c.map_or.result ≡ e.now.level) c.find.result (λ x k. search (rules, tests)) c.map_or.ensures) ∙ ap level_or found ∙ newest_found S (reverse (items_in t.entries)))
    ∙ newest_is S (listed t) (levelled t) (apart t)
