-- A wish layer stands for its wishes, which keep their limits; all proved here.
use Rattle.std.specs.Prelude.{◌≡◌, ℕ, zero, suc, ◌^◌, ◌<◌, ◌≤◌, max, List, [], ◌∷◌, ◌++◌, map, length, slice_index_or}
use Rattle.std.proofs.Common.{sym, ap, ◌∙◌, arith}
use Rattle.std.proofs.lemmas.List.{get_or-map, map_push, length-map}
use Rattle.arrayvec.specs.ArrayVec.{ArrayVec, array_vec_len}
use Rattle.cases.specs.declared.case.Case.{Ghosts}
use Rattle.wishes.specs.declared.state.Wishes.{Wishes}
use Rattle.wishes.specs.declared.held.HeldWish.{HeldWish}
use Rattle.layers.specs.Rows.{past_all}
use Rattle.layers.specs.RowViews.{items_of}
use Rattle.wishes.specs.Wishes.{Wish, wish_for, wish_reach}
use Rattle.wishes.specs.Facts.Wishes.{HeldWishes, no_wish}
use Rattle.wishes.specs.WishViews.{wish_of, wishes_in}

abbrev pub wishes_of : {C : Type 0} {K : Ghosts C} → Wishes C K → List Wish
wishes_of x = wishes_in x.wishes

each_wish : (P : Wish → Type 0) → P no_wish → ((w : HeldWish) → P (wish_of w)) → (ws : List HeldWish) (i : ℕ) → P (slice_index_or (map wish_of ws) i no_wish)
each_wish P none f [] i = none
each_wish P none f (w ∷ ws) zero = f w
each_wish P none f (w ∷ ws) (suc i) = each_wish P none f ws i

pub held_wishes : (ws : ArrayVec HeldWish) → HeldWishes (wishes_in ws)
held_wishes ws = record {
  short = each_wish (λ w. length w.literals ≤ 16) (omega arith) (λ w. w.literals.short) ws.items;
  small = each_wish (λ w. w.amount < 2 ^ 32) (omega arith) (λ w. w.fits) ws.items;
}

pub length-wishes : {C : Type 0} {K : Ghosts C} (x : Wishes C K) → length (wishes_of x) ≡ array_vec_len x.wishes
length-wishes x = length-map x.wishes.items wish_of

pub wish_read : {C : Type 0} {K : Ghosts C} (x : Wishes C K) (i : ℕ) (d : HeldWish) → i < array_vec_len x.wishes → wish_of (slice_index_or x.wishes.items i d) ≡ slice_index_or (wishes_of x) i no_wish
wish_read x i d h = sym (get_or-map wish_of x.wishes.items i d no_wish h)

-- One wish more.
pub wishes_more : (old new : ArrayVec HeldWish) (w : HeldWish) (xs : List ℕ) → new.items ≡ old.items ++ w ∷ [] → items_of w.literals ≡ xs
    → wishes_in new ≡ wishes_in old ++ wish_for xs w.amount ∷ []
wishes_more old new w xs h e = ap (map wish_of) h ∙ map_push wish_of old.items w ∙ ap (λ x. wishes_in old ++ wish_for x w.amount ∷ []) e

pub wish_reach_more : (ws : List Wish) (w : Wish) → wish_reach (ws ++ w ∷ []) ≡ max (wish_reach ws) (past_all w.literals)
wish_reach_more [] w = omega arith
wish_reach_more (x ∷ ws) w = omega (arith, wish_reach_more ws w)
