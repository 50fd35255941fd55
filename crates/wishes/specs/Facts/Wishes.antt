-- The wish layer keeps the limits, and what it tells; all proved here.
use Rattle.std.specs.Prelude.{◌≡◌, ℕ, zero, suc, ◌+◌, ◌-◌, ◌*◌, ◌/◌, ◌%◌, ◌^◌, ◌<◌, ◌≤◌, true, false, cond, List, [], ◌∷◌, ◌++◌, length, get_or, ◌==◌, ◌≢◌, slice_index, slice_index_or, refl}
use Rattle.std.proofs.Common.{sym, ap, subst, ◌∙◌, ⊎_elim, arith, length-append}
use Rattle.std.proofs.Math.ListN.{get_or-eq_default}
use Rattle.std.proofs.lemmas.Bool.{leb-true, le-leb, and_parts, and_from, cond_both, cases_lt}
use Rattle.std.proofs.lemmas.List.{get_or_append_left, get_or-append_right}
use Rattle.cases.specs.Meanings.{Meaning, Sound, oversize, sound, is_oversize, options_of, rules_of, amounts_of, amount_of}
use Rattle.cases.specs.Limits.{Limited}
use Rattle.layers.specs.Facts.Layered.{where_sound, where_held, limited_layered, each_rule, rules_counted, rule_kept, rule_added}
use Rattle.layers.specs.Layered.{SoundIfHeld}
use Rattle.layers.specs.Rows.{past_all}
use Rattle.wishes.specs.Wishes.{Wish, wish_reach, wish_rules, wish_amounts, wish_sound, wish_room, wishing}

-- What stands past the last wish.
abbrev pub no_wish : Wish
no_wish = record { literals = []; amount = 0 }

-- The rule of wish i, over a case of n options.
abbrev pub wish_rule : ℕ → List Wish → ℕ → List ℕ
wish_rule n ws i = (get_or ws i no_wish).literals ++ (2 * (n + i)) ∷ []

pub length-wish_rules : (n : ℕ) (ws : List Wish) → length (wish_rules n ws) ≡ length ws
length-wish_rules n [] = refl
length-wish_rules n (w ∷ ws) = ap suc (length-wish_rules (n + 1) ws)

pub get_or-wish_rules : (n : ℕ) (ws : List Wish) (i : ℕ) → i < length ws → slice_index_or (wish_rules n ws) i [] ≡ wish_rule n ws i
get_or-wish_rules n [] i h = absurd (omega arith)
get_or-wish_rules n (w ∷ ws) zero h = let e : n + 0 ≡ n = omega arith in ap (λ v. w.literals ++ (2 * v) ∷ []) (sym e)
get_or-wish_rules n (w ∷ ws) (suc i) h =
    let e : (n + 1) + i ≡ n + suc i = omega arith in
    get_or-wish_rules (n + 1) ws i (omega arith) ∙ ap (λ v. (get_or ws i no_wish).literals ++ (2 * v) ∷ []) e

pub length-wish_amounts : (ws : List Wish) → length (wish_amounts ws) ≡ 2 * length ws
length-wish_amounts [] = refl
length-wish_amounts (w ∷ ws) = omega (arith, length-wish_amounts ws)

-- The literal that sets option i on, counted among the wishes' options, has the amount of wish i, its complement 0.
pub get_or-wish_amounts : (ws : List Wish) (l : ℕ) → slice_index (wish_amounts ws) l ≡ cond (l % 2 == 0) (get_or ws (l / 2) no_wish).amount 0
get_or-wish_amounts [] l = cond_both (l % 2 == 0) 0 0 (λ x. 0 ≡ x) (λ _. refl) (λ _. refl)
get_or-wish_amounts (w ∷ ws) zero = refl
get_or-wish_amounts (w ∷ ws) (suc zero) = refl
get_or-wish_amounts (w ∷ ws) (suc (suc l)) =
    let p : suc (suc l) % 2 ≡ l % 2 = omega arith in
    let q : suc (suc l) / 2 ≡ suc (l / 2) = omega arith in
    get_or-wish_amounts ws l ∙ rw (p, q)

-- A wish's literals are below the reach of all.
within_reach : (ws : List Wish) (i : ℕ) → past_all (get_or ws i no_wish).literals ≤ wish_reach ws
within_reach [] i = omega arith
within_reach (w ∷ ws) zero = omega arith
within_reach (w ∷ ws) (suc i) = omega (arith, within_reach ws i)

-- The literals of a list and one more.
ends_below : (xs : List ℕ) (x b : ℕ) → past_all xs ≤ b → x < b → (j : ℕ) → j < length (xs ++ x ∷ []) → slice_index_or (xs ++ x ∷ []) j 255 < b
ends_below [] x b h k zero i = k
ends_below [] x b h k (suc j) i = absurd (omega arith)
ends_below (y ∷ xs) x b h k zero i = omega arith
ends_below (y ∷ xs) x b h k (suc j) i = ends_below xs x b (omega arith) k j (omega arith)

-- Before the one more, they are those of the list.
pub get_or-unpushed : (xs : List ℕ) (x d j : ℕ) → (j ≢ length xs) → slice_index_or (xs ++ x ∷ []) j d ≡ slice_index_or xs j d
get_or-unpushed [] x d zero h = absurd (h refl)
get_or-unpushed [] x d (suc j) h = refl
get_or-unpushed (y ∷ xs) x d zero h = refl
get_or-unpushed (y ∷ xs) x d (suc j) h = get_or-unpushed xs x d j (λ e. h (ap suc e))

-- Wishes that a layer may hold.
pub record HeldWishes (ws : List Wish) : Type 0 where
  pub short : (i : ℕ) → length (get_or ws i no_wish).literals ≤ 16
  pub small : (i : ℕ) → (get_or ws i no_wish).amount < 2 ^ 32

module _ (ws : List Wish) (s : Sound) where
  -- What holds of each rule below, of each wish's rule and of none holds of each rule.
  by_rule : (P : List ℕ → Type 0) → ((r : ℕ) → P (slice_index_or s.rules r [])) → ((i : ℕ) → i < length ws → P (wish_rule s.options ws i)) → P [] → (r : ℕ) → P (slice_index_or (wish_sound ws s).rules r [])
  by_rule P left right none =
      each_rule s.rules (wish_rules s.options ws) P (λ r _. left r)
      (λ r.
      ⊎_elim (λ h. subst P (sym (get_or-wish_rules s.options ws r h)) (right r h))
      (λ h. subst P (sym (get_or-eq_default (wish_rules s.options ws) [] (rw (length-wish_rules s.options ws) h))) none) (cases_lt r (length ws)))

  limited_wish_sound : HeldWishes ws → wish_room ws s.options (length s.rules) ≡ true → Limited (sound s) → Limited (sound (wish_sound ws s))
  limited_wish_sound held e h =
      let p = and_parts _ _ e in
      let q = and_parts _ _ p.1 in
      let options = leb-true (s.options + length ws) 56 p.0 in
      let rules = leb-true (length s.rules + length ws) 512 q.0 in
      let reach = leb-true (wish_reach ws) (2 * s.options) q.1 in
      record {
        few_options = options;
        few_rules = omega (arith, length-append s.rules (wish_rules s.options ws), length-wish_rules s.options ws);
        short_rules =
            by_rule (λ x. length x ≤ 24) h.short_rules
            (λ i _. omega (arith, length-append (get_or ws i no_wish).literals ((2 * (s.options + i)) ∷ []), held.short i)) (omega arith);
        literals_exist =
            by_rule (λ x. (j : ℕ) → j < length x → slice_index_or x j 255 < 2 * (s.options + length ws)) (λ r j k. omega (arith, h.literals_exist r j k))
            (λ i k. ends_below (get_or ws i no_wish).literals (2 * (s.options + i)) (2 * (s.options + length ws)) (omega (arith, within_reach ws i)) (omega arith))
            (λ j k. absurd (omega arith));
        amount_each = omega (arith, length-append s.amounts (wish_amounts ws), length-wish_amounts ws, h.amount_each);
        small_amounts =
            λ l.
            ⊎_elim (λ k. rw (get_or_append_left s.amounts (wish_amounts ws) 0 l k) (h.small_amounts l))
            (λ k.
            rw (get_or-append_right s.amounts (wish_amounts ws) (length s.amounts) l 0 refl k, get_or-wish_amounts ws (l - length s.amounts))
            (cond_both ((l - length s.amounts) % 2 == 0) (get_or ws ((l - length s.amounts) / 2) no_wish).amount 0 (λ x. x < 2 ^ 32) (λ _. held.small ((l - length s.amounts) / 2)) (λ _. omega arith)))
            (cases_lt l (length s.amounts));
      }

pub limited_wishing : (ws : List Wish) → HeldWishes ws → (m : Meaning) → Limited m → Limited (wishing ws m)
limited_wishing ws held = limited_layered (wish_room ws) (wish_sound ws) (λ s. limited_wish_sound ws s held)

-- A layer whose amounts are those below and then those of its wishes.
module _ (ws : List Wish) (m : Meaning) (h : Limited m) (e : amounts_of (wishing ws m) ≡ amounts_of m ++ wish_amounts ws) where
  amount_kept : (l : ℕ) → l < 2 * options_of m → amount_of (wishing ws m) l ≡ amount_of m l
  amount_kept l k = ap (λ x. slice_index x l) e ∙ get_or_append_left (amounts_of m) (wish_amounts ws) 0 l (omega (arith, h.amount_each))

  amount_added : (l : ℕ) → 2 * options_of m ≤ l → amount_of (wishing ws m) l ≡ cond (l % 2 == 0) (get_or ws ((l - 2 * options_of m) / 2) no_wish).amount 0
  amount_added l k =
      let even : (l - 2 * options_of m) % 2 ≡ l % 2 = omega arith in
      ap (λ x. slice_index x l) e
      ∙ get_or-append_right (amounts_of m) (wish_amounts ws) (2 * options_of m) l 0 h.amount_each k
      ∙ get_or-wish_amounts ws (l - 2 * options_of m)
      ∙ ap (λ x. cond (x == 0) (get_or ws ((l - 2 * options_of m) / 2) no_wish).amount 0) even

-- Of a layer that is not oversize:
module _ (ws : List Wish) (m : Meaning) (fine : is_oversize (wishing ws m) ≡ false) where
  pub wish_options : options_of (wishing ws m) ≡ options_of m + length ws
  wish_options = where_sound (wish_room ws) (wish_sound ws) (λ m t. options_of t ≡ options_of m + length ws) (λ s _. refl) m fine

  rules_told : rules_of (wishing ws m) ≡ rules_of m ++ wish_rules (options_of m) ws
  rules_told = where_sound (wish_room ws) (wish_sound ws) (λ m t. rules_of t ≡ rules_of m ++ wish_rules (options_of m) ws) (λ s _. refl) m fine

  amounts_told : amounts_of (wishing ws m) ≡ amounts_of m ++ wish_amounts ws
  amounts_told = where_sound (wish_room ws) (wish_sound ws) (λ m t. amounts_of t ≡ amounts_of m ++ wish_amounts ws) (λ s _. refl) m fine

  pub wish_rules_counted : length (rules_of (wishing ws m)) ≡ length (rules_of m) + length ws
  wish_rules_counted = rules_counted m (wishing ws m) (wish_rules (options_of m) ws) rules_told ∙ ap (λ n. length (rules_of m) + n) (length-wish_rules (options_of m) ws)

  pub wish_rule_kept : (r : ℕ) → r < length (rules_of m) → slice_index_or (rules_of (wishing ws m)) r [] ≡ slice_index_or (rules_of m) r []
  wish_rule_kept r h = rule_kept m (wishing ws m) (wish_rules (options_of m) ws) rules_told r h

  pub wish_rule_added : (r : ℕ) → length (rules_of m) ≤ r → r - length (rules_of m) < length ws → slice_index_or (rules_of (wishing ws m)) r [] ≡ wish_rule (options_of m) ws (r - length (rules_of m))
  wish_rule_added r h k = rule_added m (wishing ws m) (wish_rules (options_of m) ws) rules_told r h ∙ get_or-wish_rules (options_of m) ws (r - length (rules_of m)) k

  module _ (h : Limited m) where
    pub wish_amount_kept : (l : ℕ) → l < 2 * options_of m → amount_of (wishing ws m) l ≡ amount_of m l
    wish_amount_kept l k = amount_kept ws m h amounts_told l k

    pub wish_amount_added : (l : ℕ) → 2 * options_of m ≤ l → amount_of (wishing ws m) l ≡ cond (l % 2 == 0) (get_or ws ((l - 2 * options_of m) / 2) no_wish).amount 0
    wish_amount_added l k = amount_added ws m h amounts_told l k

-- Of a layer that is not oversize where it holds wishes:
module _ (ws : List Wish) (m : Meaning) (limits : Limited m) (held : SoundIfHeld wishing ws m) where
  told : (P : Meaning → Meaning → Type 0) → (ws ≡ [] → P oversize oversize) → ((s : Sound) → P (sound s) (sound (wish_sound ws s))) → P m (wishing ws m)
  told =
      where_held wish_room wish_sound ws m
      (and_from _ _ (le-leb (options_of m + 0) 56 (omega (arith, limits.few_options)))
      (and_from _ _ (le-leb (length (rules_of m) + 0) 512 (omega (arith, limits.few_rules))) (le-leb 0 (2 * options_of m) (omega arith)))) held

  pub wish_oversize : is_oversize (wishing ws m) ≡ is_oversize m
  wish_oversize = told (λ m t. is_oversize t ≡ is_oversize m) (λ _. refl) (λ _. refl)

  pub wish_options_held : options_of (wishing ws m) ≡ options_of m + length ws
  wish_options_held = told (λ m t. options_of t ≡ options_of m + length ws) (λ e. omega (arith, ap length e)) (λ _. refl)

  rules_told_held : rules_of (wishing ws m) ≡ rules_of m ++ wish_rules (options_of m) ws
  rules_told_held = told (λ m t. rules_of t ≡ rules_of m ++ wish_rules (options_of m) ws) (λ e. sym (ap (wish_rules 0) e)) (λ _. refl)

  amounts_told_held : amounts_of (wishing ws m) ≡ amounts_of m ++ wish_amounts ws
  amounts_told_held = told (λ m t. amounts_of t ≡ amounts_of m ++ wish_amounts ws) (λ e. sym (ap wish_amounts e)) (λ _. refl)

  pub wish_rules_counted_held : length (rules_of (wishing ws m)) ≡ length (rules_of m) + length ws
  wish_rules_counted_held = rules_counted m (wishing ws m) (wish_rules (options_of m) ws) rules_told_held ∙ ap (λ n. length (rules_of m) + n) (length-wish_rules (options_of m) ws)

  pub wish_rule_kept_held : (r : ℕ) → r < length (rules_of m) → slice_index_or (rules_of (wishing ws m)) r [] ≡ slice_index_or (rules_of m) r []
  wish_rule_kept_held r h = rule_kept m (wishing ws m) (wish_rules (options_of m) ws) rules_told_held r h

  pub wish_rule_added_held : (r : ℕ) → length (rules_of m) ≤ r → r - length (rules_of m) < length ws → slice_index_or (rules_of (wishing ws m)) r [] ≡ wish_rule (options_of m) ws (r - length (rules_of m))
  wish_rule_added_held r h k = rule_added m (wishing ws m) (wish_rules (options_of m) ws) rules_told_held r h ∙ get_or-wish_rules (options_of m) ws (r - length (rules_of m)) k

  pub wish_amount_kept_held : (l : ℕ) → l < 2 * options_of m → amount_of (wishing ws m) l ≡ amount_of m l
  wish_amount_kept_held l k = amount_kept ws m limits amounts_told_held l k

  pub wish_amount_added_held : (l : ℕ) → 2 * options_of m ≤ l → amount_of (wishing ws m) l ≡ cond (l % 2 == 0) (get_or ws ((l - 2 * options_of m) / 2) no_wish).amount 0
  wish_amount_added_held l k = amount_added ws m limits amounts_told_held l k
