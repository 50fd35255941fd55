-- A line split behind its first word.
use Rattle.std.proofs.Common.{◌≡◌, ℕ, true, false, List, [], ◌∷◌, ◌++◌, take, drop, sym, refl, ap, ◌∙◌, subst, inl, inr, append_assoc, append-nil, one-add, ◌<◌, length, arith}
use Rattle.std.specs.List.{prefix_len}
use Rattle.std.proofs.lemmas.Bool.{cases_Bool}
use Rattle.commands.specs.Lines.{is_space, ended, words_after, words}
use Rattle.commands.specs.Inner.Splitting.{in_word}

-- The words, by the first and those behind it; an empty first word says that there is none.
abbrev pub begins : List ℕ → List (List ℕ) → List (List ℕ)
begins [] more = []
begins (b ∷ word) more = (b ∷ word) ∷ more

abbrev pub trimmed : List ℕ → List ℕ
trimmed xs = drop (prefix_len is_space xs) xs

abbrev pub Splits : List ℕ → Type 0
Splits zs = words zs ≡ begins (take (prefix_len in_word zs) zs) (words (drop (prefix_len in_word zs) zs))

trimmed_yes : (b : ℕ) (xs : List ℕ) → is_space b ≡ true → trimmed (b ∷ xs) ≡ trimmed xs
trimmed_yes b xs e = rw (e, one-add)

trimmed_no : (b : ℕ) (xs : List ℕ) → is_space b ≡ false → trimmed (b ∷ xs) ≡ b ∷ xs
trimmed_no b xs e = rw e

-- The bytes up to the next space end the word.
word_ends : (w xs : List ℕ) → words_after w xs ≡ ended (w ++ take (prefix_len in_word xs) xs) (words (drop (prefix_len in_word xs) xs))
word_ends w [] = ap (λ v. ended v []) (sym (append-nil w))
word_ends w (b ∷ xs) =
    elim (cases_Bool (is_space b)) [
      | inl e ↦ rw (e, append-nil, e) refl
      | inr e ↦ rw (e, one-add) (word_ends (w ++ b ∷ []) xs ∙ ap (λ v. ended v (words (drop (prefix_len in_word xs) xs))) (append_assoc w (b ∷ []) (take (prefix_len in_word xs) xs)))
    ]

begin_splits : (b : ℕ) (xs : List ℕ) → is_space b ≡ false → Splits (b ∷ xs)
begin_splits b xs e = rw (e, one-add) (word_ends (b ∷ []) xs)

pub trimmed_splits : (xs : List ℕ) → Splits (trimmed xs)
trimmed_splits [] = refl
trimmed_splits (b ∷ xs) =
    elim (cases_Bool (is_space b)) [
      | inl e ↦ subst Splits (sym (trimmed_yes b xs e)) (trimmed_splits xs)
      | inr e ↦ subst Splits (sym (trimmed_no b xs e)) (begin_splits b xs e)
    ]

pub trimmed_words : (xs : List ℕ) → words (trimmed xs) ≡ words xs
trimmed_words [] = refl
trimmed_words (b ∷ xs) =
    elim (cases_Bool (is_space b)) [
      | inl e ↦ ap words (trimmed_yes b xs e) ∙ (trimmed_words xs ∙ rw e refl)
      | inr e ↦ ap words (trimmed_no b xs e)
    ]

-- The first word ends at place m of the part from place n on.
pub split : (xs part : List ℕ) (n m : ℕ) → n ≡ prefix_len is_space xs → part ≡ drop n xs → m ≡ prefix_len in_word part → words xs ≡ begins (take m part) (words (drop m part))
split xs part n m en ep em =
    let p : part ≡ trimmed xs = ep ∙ ap (λ k. drop k xs) en in
    let s = trimmed_splits xs in
    let w = trimmed_words xs in
    cc

pub begins_some : (word : List ℕ) (more : List (List ℕ)) → 0 < length word → begins word more ≡ word ∷ more
begins_some [] more h = let no : ⊥ = omega arith in elim no [ ]
begins_some (b ∷ word) more h = refl
