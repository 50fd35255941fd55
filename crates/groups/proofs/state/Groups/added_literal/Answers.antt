use Rattle.std.proofs.Common.{◌≡◌, ◌<◌, [], length, get_or, sym, ap, ◌∙◌, arith}
use Rattle.std.proofs.lemmas.List.{get_or-map}
use Rattle.layers.specs.RowViews.{items_of}
use Rattle.groups.specs.Groups.{pair_rules, pairs_among}
use Rattle.groups.specs.Facts.Groups.{length-pair_rules}
use Rattle.groups.specs.Facts.GroupLayers.{groups_of, length-groups}
use Rattle.groups.proofs.Counting.{group_here, group_later}
use Rattle.groups.proofs.state.Groups.added_literal.Given as given
use Rattle.groups.proofs.state.Groups.added_literal.Goals as goal
use Rattle.groups.proofs.state.Groups.added_literal.Goals.{After-pair_count-pairs}

module _ (g : given.Over) (c : goal.After-pair_count-pairs g) where
  inside : c.loop-group.group-index < length (groups_of c.args.self.now)
  inside = omega (arith, length-groups c.args.self.now, ap length c.deref-group-items.ensures.0)

  -- The list that is looked at.
  list : items_of c.group-item.result ≡ get_or (groups_of c.args.self.now) c.loop-group.group-index []
  list =
      let i = c.loop-group.group-index in
      let items = c.args.self.now.groups.items in
      ap items_of (c.group-item.is ∙ ap (λ xs. get_or xs i c.group-item.result) c.deref-group-items.ensures.0)
      ∙ sym (get_or-map items_of items i c.group-item.result [] (omega (arith, inside, length-groups c.args.self.now)))

  -- Its pairs were counted.
  counted : length (pair_rules (get_or (groups_of c.args.self.now) c.loop-group.group-index [])) ≡ c.pair_count-pairs.result
  counted =
      length-pair_rules (get_or (groups_of c.args.self.now) c.loop-group.group-index [])
      ∙ sym (c.pair_count-pairs.ensures.value ∙ ap pairs_among (c.len.ensures ∙ ap length list))

pub returns-then-left-pairs : goal.returns-then-left-pairs
returns-then-left-pairs g c =
    let gs = groups_of c.args.self.now in
    let i = c.loop-group.group-index in
    let at = (goal.at.returns-then-left-pairs g c).After-pair_count-pairs in
    c.pair_literal.ensures
    ∙ ap (λ x. get_or (get_or (pair_rules x) c.loop-group.left []) c.args.j 255) (list g at)
    ∙ ap (λ x. get_or x c.args.j 255) (sym (group_here gs i c.loop-group.left (inside g at) (omega (arith, counted g at))) ∙ c.loop-group.invariant)

pub loop-group-preserved : goal.loop-group-preserved
loop-group-preserved g c =
    let gs = groups_of c.args.self.now in
    let at = (goal.at.loop-group-preserved g c).After-pair_count-pairs in
    sym (group_later gs c.loop-group.group-index c.loop-group.left c.pair_count-pairs.result (inside g at) (counted g at) c.if-left-pairs.false) ∙ c.loop-group.invariant
