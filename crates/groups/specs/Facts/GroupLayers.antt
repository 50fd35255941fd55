-- A group layer stands for its groups; the facts below the definition are proved here.
use Rattle.std.specs.Prelude.{◌≡◌, ℕ, ◌+◌, ◌<◌, max, List, [], ◌∷◌, ◌++◌, map, length, slice_index_or}
use Rattle.std.proofs.Common.{sym, ap, ◌∙◌, arith, length-append}
use Rattle.std.proofs.lemmas.List.{get_or-map, map_push, length-map}
use Rattle.cases.specs.declared.case.Case.{Ghosts}
use Rattle.groups.specs.declared.state.Groups.{Groups}
use Rattle.layers.specs.declared.row.Row.{Row}
use Rattle.layers.specs.Rows.{past_all}
use Rattle.layers.specs.RowViews.{items_of}
use Rattle.groups.specs.Groups.{pair_rules, group_rules, group_reach}
use Rattle.groups.specs.GroupViews.{lists_of}
use Rattle.arrayvec.specs.ArrayVec.{ArrayVec, array_vec_len}

abbrev pub groups_of : {C : Type 0} {K : Ghosts C} → Groups C K → List (List ℕ)
groups_of x = lists_of x.groups

pub length-groups : {C : Type 0} {K : Ghosts C} (x : Groups C K) → length (groups_of x) ≡ array_vec_len x.groups
length-groups x = length-map x.groups.items items_of

pub group_read : {C : Type 0} {K : Ghosts C} (x : Groups C K) (i : ℕ) (d : Row) → i < array_vec_len x.groups → items_of (slice_index_or x.groups.items i d) ≡ slice_index_or (groups_of x) i []
group_read x i d h = sym (get_or-map items_of x.groups.items i d [] h)

-- One group more.
pub lists_of_more : (old new : ArrayVec Row) (g : Row) (xs : List ℕ) → new.items ≡ old.items ++ g ∷ [] → items_of g ≡ xs → lists_of new ≡ lists_of old ++ xs ∷ []
lists_of_more old new g xs h e = ap (map items_of) h ∙ map_push items_of old.items g ∙ ap (λ x. lists_of old ++ x ∷ []) e

pub group_reach_more : (gs : List (List ℕ)) (g : List ℕ) → group_reach (gs ++ g ∷ []) ≡ max (group_reach gs) (past_all g)
group_reach_more [] g = omega arith
group_reach_more (x ∷ gs) g = omega (arith, group_reach_more gs g)

pub group_rules_more : (gs : List (List ℕ)) (g : List ℕ) → length (group_rules (gs ++ g ∷ [])) ≡ length (group_rules gs) + length (pair_rules g)
group_rules_more [] g = omega (arith, length-append (pair_rules g) [])
group_rules_more (x ∷ gs) g = omega (arith, length-append (pair_rules x) (group_rules (gs ++ g ∷ [])), length-append (pair_rules x) (group_rules gs), group_rules_more gs g)
