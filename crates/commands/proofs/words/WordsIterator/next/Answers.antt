use Rattle.std.proofs.Common.{rules, ◌≡◌, ◌∷◌, length, take, drop, sym, ap, ap₂, ◌∙◌, arith}
use borrow.Author.Tests.{tests}
use Rattle.std.specs.Slice.Iter.{iter_rest}
use Rattle.std.proofs.lemmas.Iterator.{YieldsList-from_slice}
use Rattle.std.proofs.lemmas.Iterator.Consumers.{count_from_yields_List}
use Rattle.std.proofs.lemmas.Iterator.Search.{YieldsList-from_take_while}
use Rattle.std.proofs.lemmas.List.Folds.{length-prefix_len}
use Rattle.std.proofs.lemmas.List.{take_rest}
use Rattle.commands.specs.Lines.{is_space, words}
use Rattle.commands.specs.Inner.Splitting.{in_word, words_left}
use Rattle.commands.proofs.Splits.{begins, split, begins_some}
use Rattle.commands.proofs.words.WordsIterator.next.Goals.{After-count-bytes, After-split_at}
use Rattle.commands.proofs.words.WordsIterator.next.Goals as goal

-- The words, by what is counted.
counted : (c : After-count-bytes) → words_left c.args.self.now ≡ begins (take c.count-bytes.result (iter_rest c.iter-2.result)) (words (drop c.count-bytes.result (iter_rest c.iter-2.result)))
counted c =
    let xs = c.args.self.now.rest.now in
    let part = iter_rest c.iter-2.result in
    let spaces = count_from_yields_List c.take_while.result c.count-spaces.result c.count-spaces.ensures.ran
    (YieldsList-from_take_while _ is_space (YieldsList-from_slice xs (ap iter_rest c.take_while.ensures.source ∙ c.iter.ensures.rest)) c.take_while.ensures.closure c.take_while.ensures.done (λ a b q h. search (rules, tests)))
    ∙ length-prefix_len is_space xs
    in
    let bytes = count_from_yields_List c.take_while-2.result c.count-bytes.result c.count-bytes.ensures.ran
    (YieldsList-from_take_while _ in_word (YieldsList-from_slice part (ap iter_rest c.take_while-2.ensures.source)) c.take_while-2.ensures.closure c.take_while-2.ensures.done (λ a b q h. search (rules, tests)))
    ∙ length-prefix_len in_word part
    in
    split xs part c.count-spaces.result c.count-bytes.result spaces (c.iter-2.ensures.rest ∙ take_rest xs c.count-spaces.result) bytes

-- The word that is split off, and those behind it.
one_more : (c : After-split_at) → words_left c.args.self.now ≡ begins (take c.count-bytes.result (iter_rest c.iter-2.result)) (words (drop c.count-bytes.result (iter_rest c.iter-2.result))) → words_left c.args.self.now ≡ c.split_at.result.0.now ∷ words c.split_at.result.1.now
one_more c all =
    let is = sym c.iter-2.ensures.rest in
    let word = c.split_at.ensures.front ∙ ap (take c.count-bytes.result) is in
    let rest = c.split_at.ensures.back ∙ ap (drop c.count-bytes.result) is in
    all ∙ sym (ap₂ begins word (ap words rest)) ∙ begins_some c.split_at.result.0.now _ (omega (arith, c.split_at.ensures.front_len))

pub returns-then-bytes-eq0-clause-steps : goal.returns-then-bytes-eq0-clause-steps
returns-then-bytes-eq0-clause-steps c =
    let none = counted (goal.at.returns-then-bytes-eq0-clause-steps c).After-count-bytes ∙ ap (λ m. begins (take m (iter_rest c.iter-2.result)) (words (drop c.count-bytes.result (iter_rest c.iter-2.result)))) c.if-bytes-eq0.true in
    (none, none)

pub returns-clause-steps : goal.returns-clause-steps
returns-clause-steps c =
    one_more (goal.at.returns-clause-steps c).After-split_at (counted (goal.at.returns-clause-steps c).After-count-bytes)

pub returns-clause-goes : goal.returns-clause-goes
returns-clause-goes c =
    let more = one_more (goal.at.returns-clause-goes c).After-split_at (counted (goal.at.returns-clause-goes c).After-count-bytes) in
    record { on = λ _. (tt, tt, omega (arith, ap length more)); keeps = tt; rests = λ _. tt }
