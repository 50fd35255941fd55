-- What a lawful kind's sums keep, from its laws.
use Rattle.std.proofs.Common.{◌≡◌, true, sym, ap, ◌∙◌, ⊎_elim}
use Rattle.charges.specs.Kinds.{Kind, Laws}

module _ (K : Kind) (laws : Laws K) where
  pub zero_first : (a : K.charges) → K.sum K.zero a ≡ a
  zero_first a = laws.commutative K.zero a ∙ laws.neutral a

  pub reflexive : (a : K.charges) → K.not_above a a ≡ true
  reflexive a = ⊎_elim (λ e. e) (λ e. e) (laws.total a a)

  -- of three charges the first two may change places
  pub sum_swap : (a b c : K.charges) → K.sum a (K.sum b c) ≡ K.sum b (K.sum a c)
  sum_swap a b c = sym (laws.associative a b c) ∙ ap (λ (x : K.charges). K.sum x c) (laws.commutative a b) ∙ laws.associative b a c

  -- a charge is not above itself with something added
  pub not_above_sum : (a b : K.charges) → K.not_above a (K.sum a b) ≡ true
  not_above_sum a b = rw (laws.commutative a b) (rw (zero_first a) at (laws.monotone K.zero b a (laws.least b)))
