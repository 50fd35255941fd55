-- Digits of a number as members: or, and, and not, a power of two, the numbers below one; numbers of the same members are equal.
use Rattle.std.proofs.Common.{◌≡◌, ℕ, zero, suc, ◌-◌, ◌^◌, ◌<◌, ◌≤◌, min, max, false, not, ◌&&◌, ◌||◌, eqb, ltb, refl, ap, ◌∙◌, sym, ⊎_elim, arith}
use Rattle.std.specs.Prelude.{bit_and, bit_or}
use Rattle.std.specs.Int.{bit_at, bit_not, w128}
use Rattle.std.proofs.lemmas.Bool.{cases_lt, cases_eq, eq-eqb, ne_eqb, lt-ltb, le-ltb, and_right}
use Rattle.std.proofs.lemmas.Nat.Bits.{bit_at-zero, bit_at-lt, bit_at_and, bit_at_or, bit_at_not, bit_at-pow_same, bit_at-pow_other, bit_at_ones, bit_at_ones_above, bit_at_above, same_from_bits_below}
use Rattle.literals.specs.Members.{bit_of}

-- what holds of the digits 0 and 1
by_digits : (P : ℕ → ℕ → Type 0) → P 0 0 → P 0 1 → P 1 0 → P 1 1 → (x y : ℕ) → x < 2 → y < 2 → P x y
by_digits P a b c d zero zero h k = a
by_digits P a b c d zero (suc zero) h k = b
by_digits P a b c d (suc zero) zero h k = c
by_digits P a b c d (suc zero) (suc zero) h k = d
by_digits P a b c d (suc (suc x)) y h k = absurd (omega arith)
by_digits P a b c d zero (suc (suc y)) h k = absurd (omega arith)
by_digits P a b c d (suc zero) (suc (suc y)) h k = absurd (omega arith)

is_one : {x y : ℕ} → x ≡ y → eqb x 1 ≡ eqb y 1
is_one e = ap (λ (x : ℕ). eqb x 1) e

pub member_or : (a b k : ℕ) → bit_of (bit_or a b) k ≡ (bit_of a k || bit_of b k)
member_or a b k =
    is_one (bit_at_or a b k) ∙ by_digits (λ x y. eqb (max x y) 1 ≡ (eqb x 1 || eqb y 1)) refl refl refl refl (bit_at a k) (bit_at b k) (bit_at-lt a k) (bit_at-lt b k)

pub member_and : (a b k : ℕ) → bit_of (bit_and a b) k ≡ (bit_of a k && bit_of b k)
member_and a b k =
    is_one (bit_at_and a b k) ∙ by_digits (λ x y. eqb (min x y) 1 ≡ (eqb x 1 && eqb y 1)) refl refl refl refl (bit_at a k) (bit_at b k) (bit_at-lt a k) (bit_at-lt b k)

-- no member past the width
pub none_past : (n k : ℕ) → n < 2 ^ 128 → 128 ≤ k → bit_of n k ≡ false
none_past n k h l = is_one (bit_at_above n 128 k h l)

-- a without b
pub member_without : (a b k : ℕ) → a < 2 ^ 128 → b < 2 ^ 128 → bit_of (bit_and a (bit_not w128 b)) k ≡ (not (bit_of b k) && bit_of a k)
member_without a b k h i =
    ⊎_elim
    (λ (l : k < 128).
    is_one (bit_at_and a (bit_not w128 b) k ∙ ap (min (bit_at a k)) (bit_at_not w128 b k i l))
    ∙ by_digits (λ x y. eqb (min x (1 - y)) 1 ≡ (not (eqb y 1) && eqb x 1)) refl refl refl refl (bit_at a k) (bit_at b k) (bit_at-lt a k) (bit_at-lt b k))
    (λ (l : 128 ≤ k).
    let out = bit_at_above a 128 k h l in
    is_one {y = 0} (omega (arith, bit_at_and a (bit_not w128 b) k, out)) ∙ sym (and_right (not (bit_of b k)) (bit_of a k) (is_one out)))
    (cases_lt k 128)

-- a power of two has one member
pub member_one : (l k : ℕ) → bit_of (2 ^ l) k ≡ eqb k l
member_one l k =
    ⊎_elim (λ (e : k ≡ l). is_one (ap (bit_at (2 ^ l)) e ∙ bit_at-pow_same l) ∙ sym (eq-eqb k l e)) (λ (e : k ≡ l → ⊥). is_one (bit_at-pow_other l k e) ∙ sym (ne_eqb k l e))
    (cases_eq k l)

-- numbers with the same members are equal
digit_same : (x y : ℕ) → x < 2 → y < 2 → eqb x 1 ≡ eqb y 1 → x ≡ y
digit_same = by_digits (λ x y. eqb x 1 ≡ eqb y 1 → x ≡ y) (λ _. refl) (λ e. absurd cc) (λ e. absurd cc) (λ _. refl)

pub same_members : (w n m : ℕ) → n < 2 ^ w → m < 2 ^ w → ((k : ℕ) → k < w → bit_of n k ≡ bit_of m k) → n ≡ m
same_members w n m h i f = same_from_bits_below w n m h i (λ k l. digit_same (bit_at n k) (bit_at m k) (bit_at-lt n k) (bit_at-lt m k) (f k l))

pub zero_none : (k : ℕ) → bit_of 0 k ≡ false
zero_none k = is_one (bit_at-zero k)

-- one less than a power of two has the members below it
pub member_ones : (e k : ℕ) → bit_of (2 ^ e - 1) k ≡ ltb k e
member_ones e k =
    ⊎_elim (λ (h : k < e). is_one (bit_at_ones e k h) ∙ sym (lt-ltb k e h)) (λ (h : e ≤ k). is_one (bit_at_ones_above e k h) ∙ sym (le-ltb k e h)) (cases_lt k e)
