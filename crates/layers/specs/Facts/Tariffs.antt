-- The tariff layer keeps the limits, and its amounts are the classes of those below; all proved here.
use Rattle.std.specs.Prelude.{◌≡◌, ℕ, zero, suc, ◌≤◌, min, Bool, true, ◌&&◌, List, [], ◌∷◌, nat_le, slice_index, refl}
use Rattle.std.proofs.Common.{◌∙◌, zero-le, arith}
use Rattle.std.proofs.lemmas.List.{length-map}
use Rattle.std.proofs.Math.ListN.{get_or-map}
use Rattle.std.proofs.lemmas.Bool.{and_parts, leb-true}
use Rattle.cases.specs.Meanings.{Meaning, oversize, sound, amount_of}
use Rattle.cases.specs.Limits.{Limited}
use Rattle.layers.specs.Tariffs.{classes, classed, tariffed}

pub tariff_amount : (m : Meaning) (l : ℕ) → amount_of (tariffed m) l ≡ classed (amount_of m l)
tariff_amount oversize l = refl
tariff_amount (sound s) l = get_or-map classed s.amounts l 0

all_up_to : ℕ → List ℕ → Bool
all_up_to b [] = true
all_up_to b (x ∷ xs) = nat_le x b && all_up_to b xs

up_to : (b : ℕ) (xs : List ℕ) → all_up_to b xs ≡ true → (i : ℕ) → slice_index xs i ≤ b
unfolding all_up_to
up_to b [] e i = zero-le
up_to b (x ∷ xs) e zero = leb-true x b (and_parts (nat_le x b) (all_up_to b xs) e).0
up_to b (x ∷ xs) e (suc i) = up_to b xs (and_parts (nat_le x b) (all_up_to b xs) e).1 i

classed_small : (a : ℕ) → classed a ≤ 450
unfolding all_up_to
classed_small a = up_to 450 classes refl (min a 15)

pub limited_tariffed : (m : Meaning) → Limited m → Limited (tariffed m)
limited_tariffed oversize h = h
limited_tariffed (sound s) h = record {
  few_options = h.few_options;
  few_rules = h.few_rules;
  short_rules = h.short_rules;
  literals_exist = h.literals_exist;
  amount_each = length-map s.amounts classed ∙ h.amount_each;
  small_amounts = λ l. rw (tariff_amount (sound s) l) (omega (arith, classed_small (amount_of (sound s) l)));
}
