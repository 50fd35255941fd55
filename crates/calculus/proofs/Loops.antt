-- What a loop that counts up meets, from the definitions: one more number at the top, and the first place of a list that passes.
use Rattle.std.proofs.Common.{◌≡◌, ℕ, zero, suc, ◌+◌, ◌<◌, max, Bool, true, false, cond, ◌||◌, List, [], ◌∷◌, length, get_or, sym, refl, ap, ◌∙◌, not-suc-le-zero, arith}
use mathlib.Core.Option.{none, some}
use Rattle.std.proofs.Math.Bool.{or-false, or_assoc}
use Rattle.calculus.specs.Scans.{any, count, greatest, first, place, later}

pub any_more : (k : ℕ) (p : ℕ → Bool) → any (suc k) p ≡ (any k p || p k)
unfolding any
any_more zero p = or-false (p 0)
any_more (suc k) p = ap (λ (b : Bool). p 0 || b) (any_more k (λ x. p (suc x))) ∙ sym (or_assoc (p 0) (any k (λ x. p (suc x))) (p (suc k)))

pub count_more : (k : ℕ) (p : ℕ → Bool) → count (suc k) p ≡ count k p + cond (p k) 1 0
unfolding count
count_more zero p = omega arith
count_more (suc k) p = let ih = count_more k (λ x. p (suc x)) in omega arith

pub greatest_more : (k : ℕ) (p : ℕ → Bool) (f : ℕ → ℕ) → greatest (suc k) p f ≡ max (greatest k p f) (cond (p k) (f k) 0)
unfolding greatest
greatest_more zero p f = omega arith
greatest_more (suc k) p f = let ih = greatest_more k (λ x. p (suc x)) (λ x. f (suc x)) in omega arith

-- a loop that stops at the first that passes
pub first_here : (k : ℕ) (p : ℕ → Bool) (i : ℕ) → i < k → ((j : ℕ) → j < i → p j ≡ false) → p i ≡ true → first k p ≡ i
unfolding first
first_here zero p i l h e = absurd (not-suc-le-zero l)
first_here (suc k) p zero l h e = rw e
first_here (suc k) p (suc i) l h e = rw (h 0 (omega arith)) (ap suc (first_here k (λ x. p (suc x)) i (omega arith) (λ j m. h (suc j) (omega arith)) e))

pub place_here : {A : Type 0} (p : A → Bool) (xs : List A) (d : A) (i : ℕ) → i < length xs → ((j : ℕ) → j < i → p (get_or xs j d) ≡ false) → p (get_or xs i d) ≡ true → place p xs ≡ some i
unfolding place later
place_here p [] d i l h e = absurd (not-suc-le-zero l)
place_here p (x ∷ xs) d zero l h e = rw e
place_here p (x ∷ xs) d (suc i) l h e = rw (h 0 (omega arith), place_here p xs d i (omega arith) (λ j m. h (suc j) (omega arith)) e)

pub place_nowhere : {A : Type 0} (p : A → Bool) (xs : List A) (d : A) → ((j : ℕ) → j < length xs → p (get_or xs j d) ≡ false) → place p xs ≡ none
unfolding place later
place_nowhere p [] d h = refl
place_nowhere p (x ∷ xs) d h = rw (h 0 (omega arith), place_nowhere p xs d (λ j m. h (suc j) (omega arith)))
