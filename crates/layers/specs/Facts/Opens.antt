-- The open layer keeps the limits, and what it tells; all proved here.
use Rattle.std.specs.Prelude.{◌≡◌, ℕ, zero, suc, ◌+◌, ◌-◌, ◌*◌, ◌/◌, ◌%◌, ◌^◌, ◌<◌, ◌≤◌, true, false, List, [], ◌++◌, map, length, get_or, ◌==◌, nat_le, slice_index, slice_index_or, refl}
use Rattle.std.proofs.Common.{sym, ap, ◌∙◌, ⊎_elim, arith, length-append}
use Rattle.std.proofs.Math.ListN.{get_or-eq_default}
use Rattle.std.proofs.lemmas.Bool.{leb-true, and_parts, cond_both, cases_lt}
use Rattle.std.proofs.lemmas.List.{get_or_append_left, get_or-append_right, get_or-map, length-map}
use Rattle.cases.specs.Meanings.{Meaning, Sound, sound, is_oversize, options_of, rules_of, amounts_of, amount_of, literal_at, rule_length}
use Rattle.cases.specs.Limits.{Limited}
use Rattle.cases.specs.Counted.{counted}
use Rattle.cases.specs.Facts.Counted.{length-counted, counted_in, counted_out, counted_both}
use Rattle.layers.specs.Layered.{room_over}
use Rattle.layers.specs.Facts.Layered.{with_room, where_sound, limited_layered, each_rule}
use Rattle.layers.specs.Opens.{mark, not_both, mark_amount, open_sound, open_room, opened}

module _ (s : Sound) where
  length_marked : length (map (map mark) s.rules) ≡ length s.rules
  length_marked = length-map s.rules (map mark)

  length_open : length (open_sound s).rules ≡ length s.rules + s.options
  length_open = length-append (map (map mark) s.rules) (counted not_both s.options) ∙ rw (length_marked, length-counted not_both s.options)

  rule_left : (r : ℕ) → r < length s.rules → slice_index_or (open_sound s).rules r [] ≡ map mark (slice_index_or s.rules r [])
  rule_left r h =
      let k : r < length (map (map mark) s.rules) = rw length_marked h in
      get_or_append_left (map (map mark) s.rules) (counted not_both s.options) [] r k ∙ get_or-map (map mark) s.rules r [] [] h

  rule_right : (r : ℕ) → length s.rules ≤ r → slice_index_or (open_sound s).rules r [] ≡ slice_index_or (counted not_both s.options) (r - length s.rules) []
  rule_right r h = get_or-append_right (map (map mark) s.rules) (counted not_both s.options) (length s.rules) r [] length_marked h

  -- What holds of each rule below with its literals marked, of each rule that an option is not both, and of none, holds
  -- of each rule.
  by_rule : (P : List ℕ → Type 0) → ((r : ℕ) → P (map mark (slice_index_or s.rules r []))) → ((v : ℕ) → v < s.options → P (not_both v)) → P [] → (r : ℕ) → P (slice_index_or (open_sound s).rules r [])
  by_rule P left right none =
      each_rule (map (map mark) s.rules) (counted not_both s.options) P
      (λ r h. rw (get_or-map (map mark) s.rules r [] [] (rw length_marked at h)) (left r)) (λ r. counted_both not_both s.options r [] P (right r) none)

pub read_marked : (x : List ℕ) (j : ℕ) → j < length x → slice_index_or (map mark x) j 255 ≡ 2 * slice_index_or x j 255
read_marked x j h = get_or-map mark x j 255 255 h

marks_exist : (x : List ℕ) (b : ℕ) → ((j : ℕ) → j < length x → slice_index_or x j 255 < 2 * b) → (j : ℕ) → j < length (map mark x) → slice_index_or (map mark x) j 255 < 2 * (2 * b)
marks_exist x b e j h = let k : j < length x = rw (length-map x mark) at h in rw (read_marked x j k) (omega (arith, e j k))

not_both_exists : (v b : ℕ) → v < b → (j : ℕ) → j < length (not_both v) → slice_index_or (not_both v) j 255 < 2 * (2 * b)
not_both_exists v b h zero k = omega arith
not_both_exists v b h (suc zero) k = omega arith
not_both_exists v b h (suc (suc j)) k = absurd (omega arith)

limited_open_sound : (s : Sound) → open_room s.options (length s.rules) ≡ true → Limited (sound s) → Limited (sound (open_sound s))
limited_open_sound s e h =
    let few = and_parts (nat_le (2 * s.options) 56) (nat_le (length s.rules + s.options) 512) e in
    record {
      few_options = leb-true (2 * s.options) 56 few.0;
      few_rules = rw (length_open s) (leb-true (length s.rules + s.options) 512 few.1);
      short_rules = by_rule s (λ x. length x ≤ 24) (λ r. rw (length-map (slice_index_or s.rules r []) mark) (h.short_rules r)) (λ v k. omega arith) (omega arith);
      literals_exist =
          by_rule s (λ x. (j : ℕ) → j < length x → slice_index_or x j 255 < 2 * (2 * s.options)) (λ r. marks_exist (slice_index_or s.rules r []) s.options (h.literals_exist r))
          (λ v k. not_both_exists v s.options k) (λ j k. absurd (omega arith));
      amount_each = length-counted (mark_amount s.amounts) (2 * (2 * s.options));
      small_amounts =
          λ l.
          counted_both (mark_amount s.amounts) (2 * (2 * s.options)) l 0 (λ x. x < 2 ^ 32)
          (λ _. cond_both (l % 2 == 0) (slice_index s.amounts (l / 2)) 0 (λ x. x < 2 ^ 32) (λ _. h.small_amounts (l / 2)) (λ _. omega arith)) (omega arith);
    }

pub limited_opened : (m : Meaning) → Limited m → Limited (opened m)
limited_opened = limited_layered open_room open_sound limited_open_sound

-- Where there is room:
pub open_options : (m : Meaning) → room_over open_room m ≡ true → options_of (opened m) ≡ 2 * options_of m
open_options = with_room open_room open_sound (λ m t. options_of t ≡ 2 * options_of m) refl (λ s _. refl)

pub open_rules : (m : Meaning) → room_over open_room m ≡ true → length (rules_of (opened m)) ≡ length (rules_of m) + options_of m
open_rules = with_room open_room open_sound (λ m t. length (rules_of t) ≡ length (rules_of m) + options_of m) refl (λ s _. length_open s)

pub rule_marked : (r : ℕ) (m : Meaning) → room_over open_room m ≡ true → r < length (rules_of m) → slice_index_or (rules_of (opened m)) r [] ≡ map mark (slice_index_or (rules_of m) r [])
rule_marked r =
    with_room open_room open_sound (λ m t. r < length (rules_of m) → slice_index_or (rules_of t) r [] ≡ map mark (slice_index_or (rules_of m) r [])) (λ h. refl) (λ s _. rule_left s r)

pub rule_not_both : (r : ℕ) (m : Meaning) → room_over open_room m ≡ true → length (rules_of m) ≤ r → r < length (rules_of m) + options_of m
    → slice_index_or (rules_of (opened m)) r [] ≡ not_both (r - length (rules_of m))
rule_not_both r =
    with_room open_room open_sound (λ m t. length (rules_of m) ≤ r → r < length (rules_of m) + options_of m → slice_index_or (rules_of t) r [] ≡ not_both (r - length (rules_of m)))
    (λ h k. absurd (omega arith)) (λ s _ h k. rule_right s r h ∙ counted_in not_both s.options (r - length s.rules) [] (omega arith))

amount_past : (amounts : List ℕ) (n l : ℕ) → length amounts ≡ 2 * n → 2 * (2 * n) ≤ l → mark_amount amounts l ≡ 0
amount_past amounts n l e h = cond_both (l % 2 == 0) (slice_index amounts (l / 2)) 0 (λ x. x ≡ 0) (λ _. get_or-eq_default amounts 0 (omega arith)) (λ _. refl)

pub open_amount : (l : ℕ) (m : Meaning) → room_over open_room m ≡ true → length (amounts_of m) ≡ 2 * options_of m → amount_of (opened m) l ≡ mark_amount (amounts_of m) l
open_amount l =
    with_room open_room open_sound (λ m t. length (amounts_of m) ≡ 2 * options_of m → amount_of t l ≡ mark_amount (amounts_of m) l)
    (λ _. sym (cond_both (l % 2 == 0) 0 0 (λ x. x ≡ 0) (λ _. refl) (λ _. refl)))
    (λ s _ e.
    ⊎_elim (λ h. counted_in (mark_amount s.amounts) (2 * (2 * s.options)) l 0 h)
    (λ h. counted_out (mark_amount s.amounts) (2 * (2 * s.options)) l 0 h ∙ sym (amount_past s.amounts s.options l e h)) (cases_lt l (2 * (2 * s.options))))

-- A literal below 128 stands in a rule below, since none does outside.
pub literal_marked : (r j : ℕ) (m : Meaning) → room_over open_room m ≡ true → r < length (rules_of m) → literal_at m r j < 128 → literal_at (opened m) r j ≡ 2 * literal_at m r j
literal_marked r j m room h k =
    let i : j < rule_length m r =
    ⊎_elim (λ i. i) (λ p. let e : literal_at m r j ≡ 255 = get_or-eq_default (slice_index_or (rules_of m) r []) 255 p in absurd (omega arith)) (cases_lt j (rule_length m r)) in
    ap (λ x. get_or x j 255) (rule_marked r m room h) ∙ read_marked (slice_index_or (rules_of m) r []) j i

pub literal_none : (r j : ℕ) (m : Meaning) → room_over open_room m ≡ true → r < length (rules_of m) → Limited m → 128 ≤ literal_at m r j → literal_at (opened m) r j ≡ 255
literal_none r j m room h small k =
    let past : rule_length m r ≤ j =
    ⊎_elim (λ i. let e = small.literals_exist r j i in let f = small.few_options in absurd (omega arith)) (λ p. p) (cases_lt j (rule_length m r)) in
    ap (λ x. get_or x j 255) (rule_marked r m room h) ∙ get_or-eq_default (map mark (slice_index_or (rules_of m) r [])) 255 (rw (length-map (slice_index_or (rules_of m) r []) mark) past)

pub open_rules_told : (m : Meaning) → is_oversize (opened m) ≡ false → rules_of (opened m) ≡ map (map mark) (rules_of m) ++ counted not_both (options_of m)
open_rules_told = where_sound open_room open_sound (λ m t. rules_of t ≡ map (map mark) (rules_of m) ++ counted not_both (options_of m)) (λ s _. refl)
