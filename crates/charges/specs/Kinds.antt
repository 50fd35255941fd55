-- What a kind of charge is, and the laws that it keeps.
use Rattle.std.specs.Prelude.{◌≡◌, ℕ, Bool, true, ◌⊎◌}

-- A kind of charge: a zero, a price for each amount, a sum of two charges, and whether one charge is not above another.
pub record Kind : Type 1 where
  pub charges : Type 0
  pub zero : charges
  pub price : ℕ → charges
  pub sum : charges → charges → charges
  pub not_above : charges → charges → Bool

-- A kind of its parts.
abbrev pub kind : (C : Type 0) → C → (ℕ → C) → (C → C → C) → (C → C → Bool) → Kind
kind C zero price sum not_above = record { charges = C; zero = zero; price = price; sum = sum; not_above = not_above }

-- What a kind must show. Two charges may each be not above the other and still differ.
pub record Laws (K : Kind) : Type 0 where
  -- Of any two charges one is not above the other.
  pub total : (a b : K.charges) → (K.not_above a b ≡ true) ⊎ (K.not_above b a ≡ true)
  -- What is not above a charge that is not above a third is not above the third.
  pub transitive : (a b c : K.charges) → K.not_above a b ≡ true → K.not_above b c ≡ true → K.not_above a c ≡ true
  -- It does not matter which of two sums is made first,
  pub associative : (a b c : K.charges) → K.sum (K.sum a b) c ≡ K.sum a (K.sum b c)
  -- nor which of two charges comes first.
  pub commutative : (a b : K.charges) → K.sum a b ≡ K.sum b a
  -- Zero changes no charge,
  pub neutral : (a : K.charges) → K.sum a K.zero ≡ a
  -- and is above nothing.
  pub least : (a : K.charges) → K.not_above K.zero a ≡ true
  -- One more charge on both sides keeps what is not above.
  pub monotone : (a b c : K.charges) → K.not_above a b ≡ true → K.not_above (K.sum a c) (K.sum b c) ≡ true
  -- Amount 0 is free.
  pub free : K.price 0 ≡ K.zero
