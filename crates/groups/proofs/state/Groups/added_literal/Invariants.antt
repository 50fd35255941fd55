use Rattle.std.proofs.Common.{◌≡◌, [], get_or, drop}
use Rattle.groups.specs.Groups.{group_rules}
use Rattle.groups.specs.Facts.GroupLayers.{groups_of}
use Rattle.groups.proofs.state.Groups.added_literal.Given as goal

-- the rule stands at place `left` of those of this group and later ones
abbrev pub invariant-loop-group : goal.invariant-loop-group
invariant-loop-group g l = get_or (group_rules (drop l.group-index (groups_of l.self))) l.left [] ≡ get_or (group_rules (groups_of l.self)) l.k []
