-- The words of a line, one after the other.
use Rattle.std.specs.Prelude.{ℕ, Bool, not, List}
use Rattle.commands.specs.declared.words.Words.{Words}
use Rattle.commands.specs.Lines.{is_space, words}

abbrev pub in_word : ℕ → Bool
in_word b = not (is_space b)

-- The words that are still to come.
abbrev pub words_left : Words → List (List ℕ)
words_left it = words it.rest.now
