-- A loop that writes f 0, f 1 and so on over the front of a list.
use Rattle.std.proofs.Common.{◌≡◌, ℕ, ◌+◌, ◌-◌, ◌<◌, List, [], ◌∷◌, ◌++◌, length, drop, set, sym, ap, ◌∙◌, ap₂, arith}
use Rattle.std.proofs.lemmas.List.FromFn.{map-range_with_len_more, fill_by_all}
use Rattle.std.proofs.lemmas.List.{drop_more, set-append_right, append_assoc}
use Rattle.cases.specs.Counted.{counted}
use Rattle.cases.specs.Facts.Counted.{length-counted, counted_in}

module _ {X : Type 0} (f : ℕ → X) where
  fill_next : (xs : List X) (i : ℕ) → i < length xs → set (counted f i ++ drop i xs) i (f i) ≡ counted f (i + 1) ++ drop (i + 1) xs
  fill_next xs i h =
      let none : i - i ≡ 0 = omega arith in
      set-append_right (counted f i) (drop i xs) i i (f i) (length-counted f i) (omega arith)
      ∙ ap (λ k. counted f i ++ set (drop i xs) k (f i)) none
      ∙ ap (λ ys. counted f i ++ set ys 0 (f i)) (drop_more xs i (f i) h)
      ∙ sym (append_assoc (counted f i) (f i ∷ []) (drop (i + 1) xs))
      ∙ ap (λ ys. ys ++ drop (i + 1) xs) (sym (map-range_with_len_more f 0 i i (omega arith)))

  -- One turn of the loop.
  pub fill_turn : (xs ys : List X) (i : ℕ) (y : X) → i < length xs → ys ≡ counted f i ++ drop i xs → y ≡ f i → set ys i y ≡ counted f (i + 1) ++ drop (i + 1) xs
  fill_turn xs ys i y h filled e = ap₂ (λ zs z. set zs i z) filled e ∙ fill_next xs i h

  -- Two functions that agree on what is counted.
  pub counted_alike : (g : ℕ → X) (n : ℕ) → ((k : ℕ) → k < n → f k ≡ g k) → counted f n ≡ counted g n
  counted_alike g n h = fill_by_all g (counted f n) n (f 0) (length-counted f n) (λ k l. counted_in f n k (f 0) l ∙ h k l)
