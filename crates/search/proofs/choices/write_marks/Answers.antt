use Rattle.std.proofs.Common.{◌≡◌, ℕ, false, List, ◌++◌, length, get_or, drop, sym, ap, ◌∙◌, arith}
use Rattle.cases.specs.Counted.{counted}
use Rattle.calculus.specs.Calls.{written}
use Rattle.layers.proofs.Filling.{fill_turn}
use Rattle.search.proofs.Choosing.{mark_of, byte_mark, marks_counted}
use Rattle.search.proofs.choices.write_marks.Goals as goal

pub loop-v-preserved : goal.loop-v-preserved
loop-v-preserved c =
    fill_turn (λ (v : ℕ). mark_of (get_or c.args.choice.now v false)) c.args.out.now c.loop-v.out c.loop-v.v c.from.result (omega (arith, c.requires)) c.loop-v.invariant (c.from.ensures ∙ byte_mark (get_or c.args.choice.now c.loop-v.v false))

pub returns : goal.returns
unfolding written
returns c =
    let xs = c.args.choice.now in
    let e : c.loop-v.v ≡ length xs = omega arith in
    c.loop-v.invariant ∙ ap (λ (k : ℕ). counted (λ v. mark_of (get_or xs v false)) k ++ drop k c.args.out.now) e
    ∙ ap (λ (ys : List ℕ). ys ++ drop (length xs) c.args.out.now) (sym (marks_counted xs))
