use Rattle.std.proofs.Common.{◌≡◌, ◌∷◌, ap, rules, arith}
use Rattle.layers.specs.Rows.{past_all}
use Rattle.layers.specs.Facts.Rows.{below_past}
use Rattle.groups.proofs.pairs.pair_literal.Goals as goal

pub not_together_literal-requires-clause-second : goal.not_together_literal-requires-clause-second
not_together_literal-requires-clause-second c =
    let rest : c.loop-first.rest.now ≡ c.in-Some.first.now ∷ c.in-Some.after.now = search rules in
    below_past c.in-Some.after.now 128 (omega (arith, ap past_all rest, c.loop-first.invariant.small)) c.loop-first.left 0 (omega arith)
