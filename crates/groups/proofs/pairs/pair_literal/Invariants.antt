use Rattle.std.proofs.Common.{◌≡◌, ◌≤◌, [], length, get_or}
use Rattle.groups.specs.Groups.{pair_rules}
use Rattle.layers.specs.Rows.{past_all}
use Rattle.layers.specs.RowViews.{items_of}
use Rattle.groups.proofs.pairs.pair_literal.Given as goal

-- the pair stands at place `left` of those of the options that are left
abbrev pub invariant-loop-first : goal.invariant-loop-first
invariant-loop-first l = record {
  place : get_or (pair_rules l.rest) l.left [] ≡ get_or (pair_rules (items_of l.group)) l.k [];
  small : past_all l.rest ≤ 128;
}

abbrev pub decreases-loop-first : goal.decreases-loop-first
decreases-loop-first l = length l.rest
