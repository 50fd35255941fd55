-- The ladder keeps the limits, and what it tells.
use Rattle.std.specs.Prelude.{◌≡◌, ℕ, zero, suc, ◌-◌, ◌*◌, ◌%◌, ◌^◌, ◌<◌, ◌≤◌, [], length, get_or, ◌==◌, nat_le, slice_index_or, refl}
use Rattle.std.proofs.Common.{ap, arith}
use Rattle.std.proofs.lemmas.Bool.{leb-true, cond_both}
use Rattle.cases.specs.Meanings.{Meaning, oversize, sound, options_of, rules_of, literal_at, amount_of}
use Rattle.cases.specs.Limits.{Limited}
use Rattle.cases.specs.Facts.Limits.{limited_oversize}
use Rattle.cases.specs.Facts.Counted.{length-counted, counted_in, counted_both}
use Rattle.cases.specs.Ladders.{ladder_meaning, ladder_sound, ladder_rule, ladder_amount}

literal_exists : (s r j : ℕ) → r < s - 1 → j < length (ladder_rule r) → slice_index_or (ladder_rule r) j 255 < 2 * s
literal_exists s r zero h k = omega arith
literal_exists s r (suc zero) h k = omega arith
literal_exists s r (suc (suc j)) h k = omega arith

module _ (s p q : ℕ) where
  -- What holds of the sound meaning and of oversize holds of the ladder's.
  by_steps : (P : Meaning → Type 0) → (s ≤ 56 → P (sound (ladder_sound s p q))) → P oversize → P (ladder_meaning s p q)
  by_steps P fine big = cond_both (nat_le s 56) (sound (ladder_sound s p q)) oversize P (λ e. fine (leb-true s 56 e)) (λ _. big)

  pub limited_ladder : p < 2 ^ 32 → q < 2 ^ 32 → Limited (ladder_meaning s p q)
  limited_ladder hp hq =
      by_steps Limited
      (λ few. record {
        few_options = few;
        few_rules = rw (length-counted ladder_rule (s - 1)) (omega arith);
        short_rules = λ r. counted_both ladder_rule (s - 1) r [] (λ x. length x ≤ 24) (λ h. omega arith) (omega arith);
        literals_exist = λ r. counted_both ladder_rule (s - 1) r [] (λ x. (j : ℕ) → j < length x → slice_index_or x j 255 < 2 * s) (λ h j k. literal_exists s r j h k) (λ j k. omega arith);
        amount_each = length-counted (ladder_amount p q) (2 * s);
        small_amounts = λ l. counted_both (ladder_amount p q) (2 * s) l 0 (λ x. x < 2 ^ 32) (λ h. cond_both (l % 2 == 0) p q (λ x. x < 2 ^ 32) (λ _. hp) (λ _. hq)) (omega arith);
      })
      limited_oversize

  pub few_rules : length (rules_of (ladder_meaning s p q)) ≤ 55
  few_rules = by_steps (λ m. length (rules_of m) ≤ 55) (λ h. rw (length-counted ladder_rule (s - 1)) (omega arith)) (omega arith)

  pub tells_rules : length (rules_of (ladder_meaning s p q)) ≡ options_of (ladder_meaning s p q) - 1
  tells_rules = by_steps (λ m. length (rules_of m) ≡ options_of m - 1) (λ _. length-counted ladder_rule (s - 1)) refl

  pub tells_rule : (r : ℕ) → r < length (rules_of (ladder_meaning s p q)) → slice_index_or (rules_of (ladder_meaning s p q)) r [] ≡ ladder_rule r
  tells_rule r =
      by_steps (λ m. r < length (rules_of m) → slice_index_or (rules_of m) r [] ≡ ladder_rule r)
      (λ _ k. counted_in ladder_rule (s - 1) r [] (rw (length-counted ladder_rule (s - 1)) at k)) (λ k. absurd (omega arith))

  pub tells_literal : (r j : ℕ) → r < length (rules_of (ladder_meaning s p q)) → literal_at (ladder_meaning s p q) r j ≡ slice_index_or (ladder_rule r) j 255
  tells_literal r j h = ap (λ x. get_or x j 255) (tells_rule r h)

  pub tells_amount : (l : ℕ) → l < 2 * options_of (ladder_meaning s p q) → amount_of (ladder_meaning s p q) l ≡ ladder_amount p q l
  tells_amount l =
      by_steps (λ m. l < 2 * options_of m → amount_of m l ≡ ladder_amount p q l) (λ _ k. counted_in (ladder_amount p q) (2 * s) l 0 k) (λ k. absurd (omega arith))
