-- Reading a list that is made of a function's values.
use Rattle.std.specs.Prelude.{◌≡◌, ℕ, ◌<◌, ◌≤◌, length, slice_index_or}
use Rattle.std.proofs.Common.{sym, subst, ⊎_elim, arith}
use Rattle.std.proofs.Math.ListN.{get_or-eq_default}
use Rattle.std.proofs.lemmas.Bool.{cases_lt}
use Rattle.std.proofs.lemmas.List.FromFn.{length-map-range_with_len, get_or-map-range_with_len}
use Rattle.cases.specs.Counted.{counted}

pub length-counted : {X : Type 0} (f : ℕ → X) (n : ℕ) → length (counted f n) ≡ n
length-counted f n = length-map-range_with_len f 0 n

pub counted_in : {X : Type 0} (f : ℕ → X) (n i : ℕ) (d : X) → i < n → slice_index_or (counted f n) i d ≡ f i
counted_in f n i d h = get_or-map-range_with_len f 0 n i i d h (omega arith)

pub counted_out : {X : Type 0} (f : ℕ → X) (n i : ℕ) (d : X) → n ≤ i → slice_index_or (counted f n) i d ≡ d
counted_out f n i d h = get_or-eq_default (counted f n) d (rw (length-counted f n) h)

-- What holds of the default and of each value holds of what is read.
pub counted_both : {X : Type 0} (f : ℕ → X) (n i : ℕ) (d : X) (P : X → Type 0) → (i < n → P (f i)) → P d → P (slice_index_or (counted f n) i d)
counted_both f n i d P here past =
    ⊎_elim (λ h. subst P (sym (counted_in f n i d h)) (here h)) (λ h. subst P (sym (counted_out f n i d h)) past) (cases_lt i n)
