-- Spaces that make no difference to the words.
use Rattle.std.proofs.Common.{◌≡◌, ℕ, true, false, cond, List, [], ◌∷◌, ◌++◌, refl, ap}
use Rattle.commands.specs.Lines.{is_space, ended, words_after}
use Rattle.commands.specs.Calls.{of_words}
use Rattle.commands.specs.Laws.{Spacing}

-- Lines that differ in their ends alone have the same words if the ends have.
module _ (x y : List ℕ) (same : (w : List ℕ) → words_after w x ≡ words_after w y) where
  same_words : (w line : List ℕ) → words_after w (line ++ x) ≡ words_after w (line ++ y)
  same_words w [] = same w
  same_words w (b ∷ line) =
      elim (is_space b) as (λ t. cond t (ended w (words_after [] (line ++ x))) (words_after (w ++ b ∷ []) (line ++ x)) ≡ cond t (ended w (words_after [] (line ++ y))) (words_after (w ++ b ∷ []) (line ++ y)))
      [ true ↦ ap (ended w) (same_words [] line) | false ↦ same_words (w ++ b ∷ []) line ]

at_end_words : (w line : List ℕ) → words_after w (line ++ 32 ∷ []) ≡ words_after w line
at_end_words w [] = refl
at_end_words w (b ∷ line) =
    elim (is_space b) as (λ t. cond t (ended w (words_after [] (line ++ 32 ∷ []))) (words_after (w ++ b ∷ []) (line ++ 32 ∷ [])) ≡ cond t (ended w (words_after [] line)) (words_after (w ++ b ∷ []) line))
    [ true ↦ ap (ended w) (at_end_words [] line) | false ↦ at_end_words (w ++ b ∷ []) line ]

pub spacing : Spacing
spacing =
    record { in_front = λ line. refl; at_end = λ line. ap of_words (at_end_words [] line); doubled = λ front back. ap of_words (same_words (32 ∷ (32 ∷ back)) (32 ∷ back) (λ w. refl) [] front) }
