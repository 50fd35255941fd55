use Rattle.std.proofs.Common.{◌≡◌, ◌++◌, length, take, drop, append-nil, ap, ◌∙◌, arith, ap₂, drop_of_length-le}
use Rattle.std.proofs.lemmas.List.{length-take-le}
use Rattle.cases.specs.Counted.{counted}
use Rattle.layers.proofs.Filling.{fill_turn}
use Rattle.layers.proofs.marks.write_front.Goals as goal

pub loop-v-preserved : goal.loop-v-preserved
loop-v-preserved g c =
    let front = take c.args.n c.args.into.now in
    let room : length front ≡ c.args.n = length-take-le c.args.n c.args.into.now (omega arith) in
    λ f says. fill_turn f front c.loop-v.place-items c.loop-v.v c.value.result (omega arith) (c.loop-v.invariant f says) (says c.loop-v.v c.value.result (omega arith) c.value.ensures)

pub returns : goal.returns
returns g c =
    let n = c.args.n in
    let front = take n c.args.into.now in
    let room : length front ≡ n = length-take-le n c.args.into.now (omega arith) in
    let all : c.loop-v.v ≡ n = omega arith in
    λ f says.
    ap (λ xs. xs ++ drop n c.args.into.now)
    (c.loop-v.invariant f says ∙ ap₂ (λ k xs. counted f k ++ xs) all (drop_of_length-le front (omega arith)) ∙ append-nil (counted f n))
