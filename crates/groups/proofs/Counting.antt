-- Reading the rules of the groups by counting through the groups: what stands at place k of the rules of group i and
-- later ones stands in those of group i, or in those of the groups after it.
use Rattle.std.proofs.Common.{◌≡◌, ℕ, ◌+◌, ◌-◌, ◌<◌, ◌≤◌, List, [], ◌++◌, length, get_or, drop, ap, ◌∙◌}
use Rattle.std.proofs.lemmas.List.{at_drop_more, get_or_append_left, get_or-append_right}
use Rattle.groups.specs.Groups.{pair_rules, group_rules}

module _ (gs : List (List ℕ)) (i k : ℕ) where
  after : i < length gs → group_rules (drop i gs) ≡ pair_rules (get_or gs i []) ++ group_rules (drop (i + 1) gs)
  after h = at_drop_more group_rules gs i [] h

  pub group_here : i < length gs → k < length (pair_rules (get_or gs i [])) → get_or (group_rules (drop i gs)) k [] ≡ get_or (pair_rules (get_or gs i [])) k []
  group_here h l = ap (λ x. get_or x k []) (after h) ∙ get_or_append_left (pair_rules (get_or gs i [])) (group_rules (drop (i + 1) gs)) [] k l

  pub group_later : (n : ℕ) → i < length gs → length (pair_rules (get_or gs i [])) ≡ n → n ≤ k → get_or (group_rules (drop i gs)) k [] ≡ get_or (group_rules (drop (i + 1) gs)) (k - n) []
  group_later n h e l = ap (λ x. get_or x k []) (after h) ∙ get_or-append_right (pair_rules (get_or gs i [])) (group_rules (drop (i + 1) gs)) n k [] e l
