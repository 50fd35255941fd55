-- What is known of a wish that was accepted, and that the layer with it is not oversize.
use Rattle.std.proofs.Common.{◌≡◌, ℕ, ◌+◌, ◌*◌, ◌<◌, ◌≤◌, true, false, leb, List, [], ◌∷◌, ◌++◌, length, Ok, ap, arith}
use Rattle.std.proofs.lemmas.List.{length_push}
use Rattle.std.proofs.lemmas.Bool.{ltb-false, leb-false, le-leb, leb-true, and_from, and_parts, or_parts, cond-true}
use Rattle.cases.specs.Meanings.{Meaning, oversize, sound, is_oversize, options_of, rules_of}
use Rattle.layers.specs.Facts.Layered.{where_sound}
use Rattle.layers.specs.Rows.{past_all}
use Rattle.wishes.specs.Wishes.{Wish, wish_for, wish_reach, wish_room, wish_sound, wishing, wish_faults, wish_check}
use Rattle.wishes.specs.Facts.WishLayers.{wish_reach_more}
use Rattle.layers.proofs.Accepting.{no_fault}

pub record AcceptedWish (ws : List Wish) (m : Meaning) (xs : List ℕ) : Type 0 where
  pub fine : is_oversize (wishing ws m) ≡ false
  pub short : length xs ≤ 16
  pub exists : past_all xs ≤ 2 * options_of m
  pub few : length ws < 8
  pub options : options_of m + length ws < 56
  pub rules : length (rules_of m) + length ws < 512

pub accepted_wish : (ws : List Wish) (m : Meaning) (xs : List ℕ) → Ok tt ≡ wish_check ws m xs → AcceptedWish ws m xs
accepted_wish ws m xs h =
    let none = no_fault (wish_faults ws m xs) tt tt h in
    let small = or_parts (leb 56 (options_of m + length ws)) (leb 512 (length (rules_of m) + length ws)) none.1.1.1.1.0 in
    record {
      fine = none.0;
      short = ltb-false 16 (length xs) none.1.0;
      exists = ltb-false (2 * options_of m) (past_all xs) none.1.1.0;
      few = leb-false 8 (length ws) none.1.1.1.0;
      options = leb-false 56 (options_of m + length ws) small.0;
      rules = leb-false 512 (length (rules_of m) + length ws) small.1;
    }

-- What fits a sound layer, and one wish more.
fits_more : (ws : List Wish) (xs : List ℕ) (a : ℕ) (m : Meaning) → is_oversize (wishing ws m) ≡ false → AcceptedWish ws m xs → is_oversize (wishing (ws ++ wish_for xs a ∷ []) m) ≡ false
fits_more ws xs a =
    where_sound (wish_room ws) (wish_sound ws) (λ m t. AcceptedWish ws m xs → is_oversize (wishing (ws ++ wish_for xs a ∷ []) m) ≡ false)
    (λ s e k.
    let more = ws ++ wish_for xs a ∷ [] in
    let n = s.options in
    let reach = leb-true (wish_reach ws) (2 * n) (and_parts (leb (length s.rules + length ws) 512) (leb (wish_reach ws) (2 * n)) (and_parts (leb (n + length ws) 56) _ e).1).1 in
    let len = length_push ws (wish_for xs a) in
    let far = wish_reach_more ws (wish_for xs a) in
    let room : wish_room more n (length s.rules) ≡ true =
    and_from _ _ (le-leb (n + length more) 56 (omega (arith, k.options)))
    (and_from _ _ (le-leb (length s.rules + length more) 512 (omega (arith, k.rules))) (le-leb (wish_reach more) (2 * n) (omega (arith, k.exists)))) in
    ap is_oversize (cond-true (wish_room more n (length s.rules)) (sound (wish_sound more s)) oversize room))

pub still_sound : (ws : List Wish) (xs : List ℕ) (a : ℕ) (m : Meaning) → AcceptedWish ws m xs → is_oversize (wishing (ws ++ wish_for xs a ∷ []) m) ≡ false
still_sound ws xs a m k = fits_more ws xs a m k.fine k

-- The same of a wish that has passed the checks.
pub checked_sound : (ws : List Wish) (xs : List ℕ) (a : ℕ) (m : Meaning) → Ok tt ≡ wish_check ws m xs → is_oversize (wishing (ws ++ wish_for xs a ∷ []) m) ≡ false
checked_sound ws xs a m h = still_sound ws xs a m (accepted_wish ws m xs h)
