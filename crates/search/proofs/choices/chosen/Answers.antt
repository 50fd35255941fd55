use Rattle.std.proofs.Common.{◌≡◌, ℕ, ◌*◌, ◌<◌, false, get_or, rules}
use Rattle.literals.specs.Members.{member}
use Rattle.search.proofs.Choosing.{choice_first}
use Rattle.search.proofs.choices.chosen.Goals as goal

pub returns : goal.returns
returns c =
    let S = member c.args.set.now in
    let ys = c.from_fn.result in
    let items = c.from_fn.ensures.items in
    let at : (v : ℕ) → v < 56 → get_or ys v false ≡ S (2 * v) = λ v h. (let w = items.at v false h in search rules) in
    record { full = items.long; first = choice_first S ys items.long at }
