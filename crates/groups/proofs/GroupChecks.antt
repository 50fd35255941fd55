-- What is known of a group that was accepted, and that the layer with it is not oversize.
use Rattle.std.proofs.Common.{◌≡◌, ℕ, ◌+◌, ◌<◌, ◌≤◌, true, false, ltb, leb, List, [], ◌∷◌, ◌++◌, length, Ok, ap, arith}
use Rattle.std.proofs.lemmas.Bool.{ltb-false, leb-false, le-leb, leb-true, and_from, and_parts, or_parts, cond-true}
use Rattle.cases.specs.Meanings.{Meaning, oversize, sound, is_oversize, options_of, rules_of}
use Rattle.layers.specs.Facts.Layered.{where_sound}
use Rattle.layers.specs.Rows.{past_all}
use Rattle.groups.specs.Groups.{pair_rules, group_rules, group_reach, group_room, group_sound, grouped, group_faults, group_check}
use Rattle.groups.specs.Facts.Groups.{group_rules_counted}
use Rattle.groups.specs.Facts.GroupLayers.{group_reach_more, group_rules_more}
use Rattle.layers.proofs.Accepting.{no_fault}

pub record AcceptedGroup (gs : List (List ℕ)) (m : Meaning) (g : List ℕ) : Type 0 where
  pub fine : is_oversize (grouped gs m) ≡ false
  pub short : length g ≤ 8
  pub exists : past_all g ≤ options_of m
  pub few : length gs < 4
  pub rules : length (rules_of m) + length (group_rules gs) + length (pair_rules g) ≤ 512

pub accepted_group : (gs : List (List ℕ)) (m : Meaning) (g : List ℕ) → Ok tt ≡ group_check gs m g → AcceptedGroup gs m g
accepted_group gs m g h =
    let none = no_fault (group_faults gs m g) tt tt h in
    let size = or_parts (ltb (length g) 2) (ltb 8 (length g)) none.1.0 in
    let rules = ltb-false 512 (length (rules_of (grouped gs m)) + length (pair_rules g)) none.1.1.1.1.1.0 in
    record {
      fine = none.0;
      short = ltb-false 8 (length g) size.1;
      exists = ltb-false (options_of m) (past_all g) none.1.1.0;
      few = leb-false 4 (length gs) none.1.1.1.1.0;
      rules = omega (arith, group_rules_counted gs m none.0);
    }

-- What fits a sound layer, and one group more.
fits_more : (gs : List (List ℕ)) (g : List ℕ) (m : Meaning) → is_oversize (grouped gs m) ≡ false → AcceptedGroup gs m g → is_oversize (grouped (gs ++ g ∷ []) m) ≡ false
fits_more gs g =
    where_sound (group_room gs) (group_sound gs) (λ m t. AcceptedGroup gs m g → is_oversize (grouped (gs ++ g ∷ []) m) ≡ false)
    (λ s e k.
    let more = gs ++ g ∷ [] in
    let n = s.options in
    let reach = leb-true (group_reach gs) n (and_parts (leb (length s.rules + length (group_rules gs)) 512) (leb (group_reach gs) n) e).1 in
    let room : group_room more n (length s.rules) ≡ true =
    and_from (leb (length s.rules + length (group_rules more)) 512) (leb (group_reach more) n)
    (le-leb (length s.rules + length (group_rules more)) 512 (omega (arith, k.rules, group_rules_more gs g))) (le-leb (group_reach more) n (omega (arith, k.exists, group_reach_more gs g))) in
    ap is_oversize (cond-true (group_room more n (length s.rules)) (sound (group_sound more s)) oversize room))

pub still_sound : (gs : List (List ℕ)) (g : List ℕ) (m : Meaning) → AcceptedGroup gs m g → is_oversize (grouped (gs ++ g ∷ []) m) ≡ false
still_sound gs g m k = fits_more gs g m k.fine k

-- The same of a group that has passed the checks.
pub checked_sound : (gs : List (List ℕ)) (m : Meaning) (g : List ℕ) → Ok tt ≡ group_check gs m g → is_oversize (grouped (gs ++ g ∷ []) m) ≡ false
checked_sound gs m g h = still_sound gs g m (accepted_group gs m g h)
