use Rattle.std.proofs.Common.{◌≡◌, ℕ, ◌+◌, ◌<◌, false, List, [], length, get_or, replicate, sym, refl, ap, ◌∙◌, arith}
use Rattle.calculus.specs.Trails.{Trail}
use Rattle.calculus.specs.Learned.{is_reason}
use Rattle.tables.specs.Rows.{Noted, nothing_noted}
use Rattle.tables.specs.Learned.{rows_of, rules_learned}
use Rattle.tables.proofs.Facts.{learned_noting, length-noting, note_at}
use Rattle.trails.specs.Trails.{listed}
use Rattle.steps.specs.Shapes.{shape}
use Rattle.steps.proofs.Shaped.{same_shape}
use Rattle.search.specs.Inner.Changes.{restarting}
use Rattle.search.proofs.Choosing.{no_marks}
use Rattle.search.proofs.restarts.restart.Goals as goal

no_reason : (t : Trail) (i : ℕ) → t ≡ [] → is_reason t i ≡ false
unfolding is_reason
no_reason t i e = ap (λ (x : Trail). is_reason x i) e

pub returns : goal.returns
returns c =
    let tb = c.args.work.now in
    let rs = rows_of tb.learned in
    let rows = c.note.ensures in
    record {
      leaves = same_shape {b = restarting (shape tb)} c.clear.ensures refl refl (ap rules_learned rows ∙ learned_noting (replicate 64 false) rs) refl refl;
      notes = λ base j h.
          let k : j < length rs = omega (arith, ap length rows, length-noting (replicate 64 false) rs) in
          ap (λ (x : List Noted). (get_or x j nothing_noted).reason) rows ∙ note_at (replicate 64 false) rs j k ∙ no_marks 64 j ∙ sym (no_reason (listed c.clear.new.self) (base + j) c.clear.ensures);
    }
