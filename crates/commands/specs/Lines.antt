-- The words of a line: what spaces cut it into. Spaces at either end, and several between two words, do not matter.
use Rattle.std.specs.Prelude.{ℕ, Bool, cond, List, [], ◌∷◌, ◌++◌, ◌==◌}

abbrev pub is_space : ℕ → Bool
is_space b = b == 32

-- A word that is at its end, and the words behind it; where no byte of it was there, it is no word.
abbrev pub ended : List ℕ → List (List ℕ) → List (List ℕ)
ended [] more = more
ended (b ∷ word) more = (b ∷ word) ∷ more

-- The words, where these bytes of the first have been read.
abbrev pub words_after : List ℕ → List ℕ → List (List ℕ)
words_after word [] = ended word []
words_after word (b ∷ line) = cond (is_space b) (ended word (words_after [] line)) (words_after (word ++ b ∷ []) line)

abbrev pub words : List ℕ → List (List ℕ)
words line = words_after [] line
