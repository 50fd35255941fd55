-- A number read digit by digit and cut off on the way is the number cut off at the end.
use Rattle.std.proofs.Common.{◌≡◌, ℕ, ◌+◌, ◌-◌, ◌*◌, ◌<◌, ◌≤◌, true, false, cond, leb, List, [], ◌∷◌, length, get_or, drop, Some, None, sym, refl, ap, ◌∙◌, arith}
use Rattle.std.specs.Option.{option_map}
use Rattle.std.proofs.lemmas.List.{at_drop_more}
use Rattle.std.proofs.lemmas.Bool.{cond-true, and_from, le-leb}
use Rattle.commands.specs.Numbers.{is_digit, digits_after, number}
use Rattle.commands.specs.Inner.Capping.{capped}

capped_more : (n d : ℕ) → capped (n * 10 + d) ≡ capped (capped n * 10 + d)
capped_more n d = omega arith

digits_capped : (n : ℕ) (xs : List ℕ) → option_map capped (digits_after n xs) ≡ option_map capped (digits_after (capped n) xs)
digits_capped n [] = let e : capped n ≡ capped (capped n) = omega arith in ap Some e
digits_capped n (b ∷ xs) =
    elim (is_digit b) as (λ t. option_map capped (cond t (digits_after (n * 10 + (b - 48)) xs) None) ≡ option_map capped (cond t (digits_after (capped n * 10 + (b - 48)) xs) None)) [
      | true ↦ digits_capped (n * 10 + (b - 48)) xs ∙ (ap (λ m. option_map capped (digits_after m xs)) (capped_more n (b - 48)) ∙ sym (digits_capped (capped n * 10 + (b - 48)) xs))
      | false ↦ refl
    ]

digit_first : (n b : ℕ) (xs : List ℕ) → 48 ≤ b → b ≤ 57 → option_map capped (digits_after n (b ∷ xs)) ≡ option_map capped (digits_after (capped (n * 10 + (b - 48))) xs)
digit_first n b xs low high =
    ap (option_map capped) (cond-true (is_digit b) (digits_after (n * 10 + (b - 48)) xs) None (and_from (leb 48 b) (leb b 57) (le-leb 48 b low) (le-leb b 57 high)))
    ∙ digits_capped (n * 10 + (b - 48)) xs

pub digit_more : (n i : ℕ) (xs : List ℕ) → i < length xs → 48 ≤ get_or xs i 0 → get_or xs i 0 ≤ 57 → option_map capped (digits_after n (drop i xs)) ≡ option_map capped (digits_after (capped (n * 10 + (get_or xs i 0 - 48))) (drop (i + 1) xs))
digit_more n i xs lt low high = at_drop_more (λ ys. option_map capped (digits_after n ys)) xs i 0 lt ∙ digit_first n (get_or xs i 0) (drop (i + 1) xs) low high

pub number_full : (xs : List ℕ) → 0 < length xs → number xs ≡ digits_after 0 xs
number_full [] h = let no : ⊥ = omega arith in elim no [ ]
number_full (b ∷ xs) h = refl
