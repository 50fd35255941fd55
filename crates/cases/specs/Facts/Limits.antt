-- Facts on the limits.
use Rattle.std.specs.Prelude.{◌≡◌, ℕ, ◌*◌, ◌≤◌, true, false, [], length, slice_index_or, refl}
use Rattle.std.proofs.Common.{ap, arith}
use Rattle.std.proofs.Math.ListN.{get_or-eq_default}
use Rattle.std.proofs.lemmas.Bool.{both_ways}
use Rattle.cases.specs.Meanings.{Meaning, oversize, sound, is_oversize, options_of, rules_of, amounts_of, amount_of}
use Rattle.cases.specs.Limits.{Limited, Outside}

pub limited_oversize : Limited oversize
limited_oversize = record {
  few_options = omega arith;
  few_rules = omega arith;
  short_rules = λ r. omega arith;
  literals_exist = λ r j h. omega arith;
  amount_each = refl;
  small_amounts = λ l. omega arith;
}

pub amount_out : (m : Meaning) (l : ℕ) → Limited m → 2 * options_of m ≤ l → amount_of m l ≡ 0
amount_out m l h k = get_or-eq_default (amounts_of m) 0 (rw h.amount_each k)

pub rule_out : (m : Meaning) (r : ℕ) → length (rules_of m) ≤ r → slice_index_or (rules_of m) r [] ≡ []
rule_out m r k = get_or-eq_default (rules_of m) [] k

nothing : (m : Meaning) → is_oversize m ≡ true → (options_of m ≡ 0) × (length (rules_of m) ≡ 0)
nothing oversize h = (refl, refl)
nothing (sound s) h = absurd (both_ways false refl h)

pub outside : (m : Meaning) → Limited m → Outside m
outside m h = record {
  no_rule = λ r k. ap length (rule_out m r k);
  no_place = λ r j k. get_or-eq_default (slice_index_or (rules_of m) r []) 255 k;
  no_literal = λ l k. amount_out m l h k;
  nothing_told = nothing m;
}
