use Rattle.std.proofs.Common.{◌≡◌, vec_items}
use Rattle.commands.specs.Numbers.{literals}
use Rattle.commands.specs.Inner.Splitting.{words_left}
use Rattle.commands.proofs.Taken.{behind}
use Rattle.commands.proofs.literals.read_literals.Given as goal

abbrev pub invariant-loop-word : goal.invariant-loop-word
invariant-loop-word l = literals (words_left l.fn.words) ≡ behind (vec_items l.found) (literals (words_left l.word-iterator))
