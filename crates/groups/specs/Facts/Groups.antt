-- The group layer keeps the limits, and what it tells; all proved here.
use Rattle.std.specs.Prelude.{◌≡◌, ℕ, zero, suc, ◌+◌, ◌-◌, ◌*◌, ◌<◌, ◌≤◌, true, false, List, [], ◌∷◌, ◌++◌, map, length, nat_le, slice_index_or, refl}
use Rattle.std.proofs.Common.{sym, ap, subst, ⊎_elim, suc-mul, mul-suc, mul-le-mul, arith, length-append}
use Rattle.std.proofs.lemmas.List.{length-map}
use Rattle.std.proofs.Math.ListN.{get_or-eq_default}
use Rattle.std.specs.List.{AllByRecursion}
use Rattle.std.proofs.ByRecursion.{All-append, All-map, All-weaker, All-get_or}
use Rattle.std.proofs.lemmas.Bool.{leb-true, le-leb, and_parts, and_from, cases_lt}
use Rattle.cases.specs.Meanings.{Meaning, Sound, oversize, sound, is_oversize, options_of, rules_of, amounts_of}
use Rattle.cases.specs.Limits.{Limited}
use Rattle.layers.specs.Facts.Layered.{where_sound, where_held, limited_layered, each_rule, rules_counted, rule_kept, rule_added}
use Rattle.layers.specs.Layered.{SoundIfHeld}
use Rattle.layers.specs.Apart.{not_together}
use Rattle.layers.specs.Rows.{past_all}
use Rattle.layers.specs.Facts.Rows.{all_below_past}
use Rattle.groups.specs.Groups.{pair_rules, pairs_among, group_rules, group_reach, group_sound, group_room, grouped}

-- Twice the pairs, and each thing with itself, make a square.
pub square : (n : ℕ) → 2 * pairs_among n + n ≡ n * n
square zero = refl
square (suc n) = omega (arith, square n, suc-mul n (suc n), mul-suc n n)

pub few_pairs : (n : ℕ) → n ≤ 16 → pairs_among n ≤ 128
few_pairs n h = omega (arith, square n, mul-le-mul h h)

pub length-pair_rules : (g : List ℕ) → length (pair_rules g) ≡ pairs_among (length g)
length-pair_rules [] = refl
length-pair_rules (a ∷ bs) = omega (arith, length-append (map (not_together a) bs) (pair_rules bs), length-map bs (not_together a), length-pair_rules bs)

-- Two literals, of options below b.
abbrev PairRule : ℕ → List ℕ → Type 0
PairRule b x = (length x ≡ 2) × ((j : ℕ) → j < 2 → slice_index_or x j 255 < 2 * b)

pair_rule : (b x y : ℕ) → x < b → y < b → PairRule b (not_together x y)
pair_rule b x y h k = (refl, each)
  where
    each : (j : ℕ) → j < 2 → slice_index_or (not_together x y) j 255 < 2 * b
    each zero i = omega arith
    each (suc zero) i = omega arith
    each (suc (suc j)) i = absurd (omega arith)

pairs_of_group : (b : ℕ) (g : List ℕ) → past_all g ≤ b → AllByRecursion (PairRule b) (pair_rules g)
pairs_of_group b [] h = tt
pairs_of_group b (x ∷ ys) h =
    All-append (PairRule b) (map (not_together x) ys) (pair_rules ys)
    (All-map (PairRule b) (not_together x) ys (All-weaker (λ y. y < b) (λ y. PairRule b (not_together x y)) (λ y k. pair_rule b x y (omega arith) k) ys (all_below_past ys b (omega arith))))
    (pairs_of_group b ys (omega arith))

pairs_of_groups : (b : ℕ) (gs : List (List ℕ)) → group_reach gs ≤ b → AllByRecursion (PairRule b) (group_rules gs)
pairs_of_groups b [] h = tt
pairs_of_groups b (g ∷ gs) h = All-append (PairRule b) (pair_rules g) (group_rules gs) (pairs_of_group b g (omega arith)) (pairs_of_groups b gs (omega arith))

-- What holds of a rule of a pair, and of none, holds of whichever is read.
by_pair : (b : ℕ) (gs : List (List ℕ)) → group_reach gs ≤ b → (P : List ℕ → Type 0) → ((x : List ℕ) → PairRule b x → P x) → P [] → (i : ℕ) → P (slice_index_or (group_rules gs) i [])
by_pair b gs h P f none i =
    ⊎_elim (λ k. f (slice_index_or (group_rules gs) i []) (All-get_or (PairRule b) (group_rules gs) i [] k (pairs_of_groups b gs h)))
    (λ k. subst P (sym (get_or-eq_default (group_rules gs) [] k)) none) (cases_lt i (length (group_rules gs)))

pub pair_length : (gs : List (List ℕ)) (i : ℕ) → i < length (group_rules gs) → length (slice_index_or (group_rules gs) i []) ≡ 2
pair_length gs i h = (All-get_or (PairRule (group_reach gs)) (group_rules gs) i [] h (pairs_of_groups (group_reach gs) gs (omega arith))).0

limited_group_sound : (gs : List (List ℕ)) (s : Sound) → group_room gs s.options (length s.rules) ≡ true → Limited (sound s) → Limited (sound (group_sound gs s))
limited_group_sound gs s e h =
    let p = and_parts (nat_le (length s.rules + length (group_rules gs)) 512) (nat_le (group_reach gs) s.options) e in
    let rules = leb-true (length s.rules + length (group_rules gs)) 512 p.0 in
    let reach = leb-true (group_reach gs) s.options p.1 in
    record {
      few_options = h.few_options;
      few_rules = omega (arith, length-append s.rules (group_rules gs));
      short_rules = each_rule s.rules (group_rules gs) (λ x. length x ≤ 24) (λ r _. h.short_rules r) (by_pair s.options gs reach (λ x. length x ≤ 24) (λ x k. omega (arith, k.0)) (omega arith));
      literals_exist =
          each_rule s.rules (group_rules gs) (λ x. (j : ℕ) → j < length x → slice_index_or x j 255 < 2 * s.options) (λ r _. h.literals_exist r)
          (by_pair s.options gs reach (λ x. (j : ℕ) → j < length x → slice_index_or x j 255 < 2 * s.options) (λ x k j i. k.1 j (omega (arith, k.0))) (λ j i. absurd (omega arith)));
      amount_each = h.amount_each;
      small_amounts = h.small_amounts;
    }

pub limited_grouped : (gs : List (List ℕ)) (m : Meaning) → Limited m → Limited (grouped gs m)
limited_grouped gs = limited_layered (group_room gs) (group_sound gs) (limited_group_sound gs)

-- Of a layer that is not oversize:
module _ (gs : List (List ℕ)) (m : Meaning) (fine : is_oversize (grouped gs m) ≡ false) where
  pub group_options : options_of (grouped gs m) ≡ options_of m
  group_options = where_sound (group_room gs) (group_sound gs) (λ m t. options_of t ≡ options_of m) (λ s _. refl) m fine

  pub group_amounts : amounts_of (grouped gs m) ≡ amounts_of m
  group_amounts = where_sound (group_room gs) (group_sound gs) (λ m t. amounts_of t ≡ amounts_of m) (λ s _. refl) m fine

  pub group_rules_told : rules_of (grouped gs m) ≡ rules_of m ++ group_rules gs
  group_rules_told = where_sound (group_room gs) (group_sound gs) (λ m t. rules_of t ≡ rules_of m ++ group_rules gs) (λ s _. refl) m fine

  pub group_rules_counted : length (rules_of (grouped gs m)) ≡ length (rules_of m) + length (group_rules gs)
  group_rules_counted = rules_counted m (grouped gs m) (group_rules gs) group_rules_told

  pub group_rule_kept : (r : ℕ) → r < length (rules_of m) → slice_index_or (rules_of (grouped gs m)) r [] ≡ slice_index_or (rules_of m) r []
  group_rule_kept r h = rule_kept m (grouped gs m) (group_rules gs) group_rules_told r h

  pub group_rule_added : (r : ℕ) → length (rules_of m) ≤ r → slice_index_or (rules_of (grouped gs m)) r [] ≡ slice_index_or (group_rules gs) (r - length (rules_of m)) []
  group_rule_added r h = rule_added m (grouped gs m) (group_rules gs) group_rules_told r h

-- Of a layer that is not oversize where it holds groups:
module _ (gs : List (List ℕ)) (m : Meaning) (limits : Limited m) (held : SoundIfHeld grouped gs m) where
  told : (P : Meaning → Meaning → Type 0) → (gs ≡ [] → P oversize oversize) → ((s : Sound) → P (sound s) (sound (group_sound gs s))) → P m (grouped gs m)
  told =
      where_held group_room group_sound gs m
      (and_from _ _ (le-leb (length (rules_of m) + 0) 512 (omega (arith, limits.few_rules))) (le-leb 0 (options_of m) (omega arith))) held

  pub group_oversize : is_oversize (grouped gs m) ≡ is_oversize m
  group_oversize = told (λ m t. is_oversize t ≡ is_oversize m) (λ _. refl) (λ _. refl)

  pub group_options_held : options_of (grouped gs m) ≡ options_of m
  group_options_held = told (λ m t. options_of t ≡ options_of m) (λ _. refl) (λ _. refl)

  pub group_amounts_held : amounts_of (grouped gs m) ≡ amounts_of m
  group_amounts_held = told (λ m t. amounts_of t ≡ amounts_of m) (λ _. refl) (λ _. refl)

  pub group_rules_told_held : rules_of (grouped gs m) ≡ rules_of m ++ group_rules gs
  group_rules_told_held = told (λ m t. rules_of t ≡ rules_of m ++ group_rules gs) (λ e. sym (ap group_rules e)) (λ _. refl)

  pub group_rules_counted_held : length (rules_of (grouped gs m)) ≡ length (rules_of m) + length (group_rules gs)
  group_rules_counted_held = rules_counted m (grouped gs m) (group_rules gs) group_rules_told_held

  pub group_rule_kept_held : (r : ℕ) → r < length (rules_of m) → slice_index_or (rules_of (grouped gs m)) r [] ≡ slice_index_or (rules_of m) r []
  group_rule_kept_held r h = rule_kept m (grouped gs m) (group_rules gs) group_rules_told_held r h

  pub group_rule_added_held : (r : ℕ) → length (rules_of m) ≤ r → slice_index_or (rules_of (grouped gs m)) r [] ≡ slice_index_or (group_rules gs) (r - length (rules_of m)) []
  group_rule_added_held r h = rule_added m (grouped gs m) (group_rules gs) group_rules_told_held r h
