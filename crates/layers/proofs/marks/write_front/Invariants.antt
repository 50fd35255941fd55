use Rattle.std.proofs.Common.{◌≡◌, ℕ, ◌<◌, ◌++◌, drop}
use Rattle.cases.specs.Counted.{counted}
use Rattle.layers.proofs.marks.write_front.Given as goal

abbrev pub invariant-loop-v : goal.invariant-loop-v
invariant-loop-v g l = (f : ℕ → g.row.T.Denot) → ((v : ℕ) (x : g.row.T.Denot) → v < l.n → goal.F-post g l.value v x → x ≡ f v)
    → l.place-items ≡ counted f l.v ++ drop l.v l.initial.place-items
