use Rattle.std.proofs.Common.{◌≡◌, ℕ, zero, suc, ◌+◌, ◌*◌, ◌/◌, ◌%◌, ◌^◌, ◌<◌, false, eqb, Some, None, Option, MatchOption, pow-add, one-add, pow_pos, sym, refl, ap, ◌∙◌, subst, arith}
use Rattle.std.specs.Prelude.{count_ones}
use lib.Count.{count_trailing_zeros, under, ones, ones_step, ones_cat}
use lib.Pow.{pow-lt}
use Rattle.std.proofs.lemmas.Bool.{eqb-true, eqb-false, eq-eqb, both_ways}
use Rattle.std.proofs.lemmas.Nat.{zero_from_ones, shr_below}
use Rattle.std.proofs.lemmas.Nat.Bits.{bit_at-trailing_zeros}
use Rattle.std.specs.Int.{trailing_zeros, w128}
use Rattle.literals.specs.declared.LiteralSet.{LiteralSet}
use Rattle.literals.specs.Members.{bit_of, member, OnlyOne, Lowest}
use Rattle.literals.proofs.Digits.{member_one, same_members}
use Rattle.literals.proofs.LiteralSet.only.Goals as goal

-- a number with one digit set is that power of two
by_digit : (w n d : ℕ) → n % 2 ≡ d → count_ones n ≡ 1 → (count_ones (n / 2) ≡ 1 → n / 2 ≡ 2 ^ count_trailing_zeros w (n / 2)) → n ≡ 2 ^ under d (count_trailing_zeros w (n / 2))
by_digit w n zero e h rest =
    let z = count_trailing_zeros w (n / 2) in
    let up : 2 ^ suc z ≡ 2 ^ 1 * 2 ^ z = ap (λ (x : ℕ). 2 ^ x) (sym (one-add z)) ∙ pow-add 2 1 z in
    omega (arith, rest (omega (arith, ones_step n)), up)
by_digit w n (suc d) e h rest = let none = zero_from_ones (n / 2) (omega (arith, ones_step n)) in omega arith

no_ones : count_ones 0 ≡ 0
unfolding ones
no_ones = refl

power_of : (w n : ℕ) → n < 2 ^ w → count_ones n ≡ 1 → n ≡ 2 ^ count_trailing_zeros w n
unfolding count_trailing_zeros
power_of zero n h e = let z : n ≡ 0 = omega arith in absurd (omega (arith, e, ap count_ones z, no_ones))
power_of (suc w) n h e =
    by_digit w n (n % 2) refl e (λ f. power_of w (n / 2) (shr_below n w 1 (subst (λ (x : ℕ). n < 2 ^ x) (omega arith) h)) f)

-- a power of two has one digit set
ones_power : (l : ℕ) → count_ones (2 ^ l) ≡ 1
unfolding ones
ones_power l = let e : 2 ^ l ≡ 1 * 2 ^ l + 0 = omega arith in ap count_ones e ∙ ones_cat l 1 0 (pow_pos l)

-- a number with one member is that power of two
power : (n l : ℕ) → n < 2 ^ 128 → l < 128 → ((k : ℕ) → k < 128 → bit_of n k ≡ eqb k l) → n ≡ 2 ^ l
power n l h i f = same_members 128 n (2 ^ l) h (pow-lt i) (λ k b. f k b ∙ sym (member_one l k))

only_first : (s : LiteralSet) (o : Option ℕ) → s.bits < 2 ^ 128 → count_ones s.bits ≡ 1 → MatchOption o ((k : ℕ) → member s k ≡ false) (λ l. Lowest s l)
    → MatchOption o ((l : ℕ) → OnlyOne s l → ⊥) (λ l. OnlyOne s l)
unfolding member
only_first s None h e none = λ l only. both_ways (bit_of s.bits l) (none l) (only.is_alone l only.is_literal ∙ eq-eqb l l refl)
only_first s (Some l) h e low =
    let z = trailing_zeros w128 s.bits in
    let is : s.bits ≡ 2 ^ z = power_of 128 s.bits h e in
    let all : (k : ℕ) → bit_of s.bits k ≡ eqb k z = λ k. ap (λ (x : ℕ). bit_of x k) is ∙ member_one z k in
    let same : l ≡ z = eqb-true l z (sym (all l) ∙ low.is_in) in
    record {
      is_literal = subst (λ (x : ℕ). x < 128) (sym same) (bit_at-trailing_zeros w128 s.bits (omega (arith, is, pow_pos z)) h).0;
      is_alone = λ k _. all k ∙ ap (eqb k) (sym same);
    }

pub returns-then-is_power_of_two : goal.returns-then-is_power_of_two
returns-then-is_power_of_two c =
    only_first c.args.self.now c.first.result (omega arith) (eqb-true _ 1 (sym c.if-is_power_of_two.ensures)) c.first.ensures

pub returns-else-is_power_of_two : goal.returns-else-is_power_of_two
unfolding member
returns-else-is_power_of_two c l only =
    let n = c.args.self.now.bits in
    let e : n ≡ 2 ^ l = power n l (omega arith) only.is_literal only.is_alone in
    eqb-false (count_ones n) 1 (sym c.if-is_power_of_two.ensures) (ap count_ones e ∙ ones_power l)
