-- Sum and Worst keep the laws of a kind, by arithmetic on their one number.
use Rattle.std.specs.Prelude.{◌≡◌, ℕ, ◌+◌, ◌-◌, ◌^◌, ◌<◌, ◌≤◌, min, true, ◌⊎◌, nat_le, refl}
use Rattle.std.proofs.Common.{ap, inl, inr, ⊎_elim, arith}
use Rattle.std.proofs.lemmas.Bool.{leb-true, le-leb, cases_lt}
use Rattle.charges.specs.Kinds.{Laws}
use Rattle.charges.specs.SumKind.{sum_of, sum_kind}
use Rattle.charges.specs.WorstKind.{worst_of, worst_kind}
use Rattle.charges.specs.declared.kinds.Sum.{Sum}
use Rattle.charges.specs.Facts.Same.{sum_same}

leb_total : (m n : ℕ) → (nat_le m n ≡ true) ⊎ (nat_le n m ≡ true)
leb_total m n = ⊎_elim (λ (h : m < n). inl (le-leb m n (omega arith))) (λ (h : n ≤ m). inr (le-leb n m h)) (cases_lt m n)

leb_trans : (k m n : ℕ) → nat_le k m ≡ true → nat_le m n ≡ true → nat_le k n ≡ true
leb_trans k m n p q = le-leb k n (omega (arith, leb-true k m p, leb-true m n q))

zero_value : (sum_of 0).value ≡ 0
unfolding sum_of
zero_value = refl

sum_value : (a b : Sum) → (sum_kind.sum a b).value ≡ min (a.value + b.value) (2 ^ 64 - 1)
unfolding sum_of
sum_value a b = omega arith

pub sum_laws : Laws sum_kind
sum_laws =
    record {
      total = λ a b. leb_total a.value b.value;
      transitive = λ a b c. leb_trans a.value b.value c.value;
      associative =
          λ a b c.
          let ab = sum_kind.sum a b in
          let bc = sum_kind.sum b c in
          sum_same _ _ (omega (arith, sum_value a b, sum_value ab c, sum_value b c, sum_value a bc));
      commutative = λ a b. sum_same _ _ (omega (arith, sum_value a b, sum_value b a));
      neutral = λ a. sum_same _ a (omega (arith, sum_value a (sum_of 0), zero_value, a.fits));
      least = λ a. le-leb (sum_of 0).value a.value (omega (arith, zero_value));
      monotone = λ a b c p. le-leb _ _ (omega (arith, leb-true a.value b.value p, sum_value a c, sum_value b c));
      free = refl;
    }

pub worst_laws : Laws worst_kind
worst_laws =
    record {
      total = λ a b. leb_total a.value b.value;
      transitive = λ a b c. leb_trans a.value b.value c.value;
      associative = λ a b c. ap worst_of (omega arith);
      commutative = λ a b. ap worst_of (omega arith);
      neutral = λ a. ap worst_of (omega arith);
      least = λ a. le-leb 0 a.value (omega arith);
      monotone = λ a b c p. le-leb _ _ (omega (arith, leb-true a.value b.value p));
      free = refl;
    }
