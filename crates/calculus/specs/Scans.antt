-- Looking through the numbers below a bound, and through a list.
use Rattle.std.specs.Prelude.{ℕ, zero, suc, ◌+◌, max, Bool, false, cond, ◌||◌, List, [], ◌∷◌}
use Rattle.std.proofs.Math.Option.{Option, none, some}

-- Some number below k passes the test p.
unfoldable pub any : ℕ → (ℕ → Bool) → Bool
any zero p = false
any (suc k) p = p zero || any k (λ x. p (suc x))

-- The lowest number that passes, or k if none below k does.
unfoldable pub first : ℕ → (ℕ → Bool) → ℕ
first zero p = zero
first (suc k) p = cond (p zero) zero (suc (first k (λ x. p (suc x))))

-- How many numbers below k pass.
unfoldable pub count : ℕ → (ℕ → Bool) → ℕ
count zero p = zero
count (suc k) p = cond (p zero) 1 0 + count k (λ x. p (suc x))

-- The greatest f x of the numbers x below k that pass, or 0.
unfoldable pub greatest : ℕ → (ℕ → Bool) → (ℕ → ℕ) → ℕ
greatest zero p f = zero
greatest (suc k) p f = max (cond (p zero) (f zero) 0) (greatest k (λ x. p (suc x)) (λ x. f (suc x)))

unfoldable pub later : Option ℕ → Option ℕ
later none = none
later (some i) = some (suc i)

module _ {A : Type 0} where
  -- The place of the first element that passes, if one does.
  unfoldable pub place : (A → Bool) → List A → Option ℕ
  place p [] = none
  place p (x ∷ xs) = let rest : Option ℕ = later (place p xs) in cond (p x) (some zero) rest

  -- The list without the element at place i; the whole list if it has no such place.
  unfoldable pub remove : ℕ → List A → List A
  remove i [] = []
  remove zero (x ∷ xs) = xs
  remove (suc i) (x ∷ xs) = x ∷ remove i xs

  -- All but the last element.
  unfoldable pub all_but_last : List A → List A
  all_but_last [] = []
  all_but_last (x ∷ []) = []
  all_but_last (x ∷ y ∷ xs) = x ∷ all_but_last (y ∷ xs)
