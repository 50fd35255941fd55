use Rattle.std.proofs.Common.{ℕ, List, [], length, None, refl, ap, ap₂, arith}
use Rattle.charges.specs.Generic.{kind_of}
use Rattle.charges.specs.Charges.{contents}
use Rattle.calculus.specs.States.{State, fresh, restarted}
use Rattle.calculus.specs.Piles.{after, calls_on}
use Rattle.tables.specs.Learned.{rows_of}
use Rattle.tables.proofs.Facts.{length-learned}
use Rattle.steps.specs.Shapes.{Shape}
use Rattle.steps.specs.States.{state}
use Rattle.search.proofs.Led.{promised}
use Rattle.search.proofs.search.Search.new.Goals as goal

pub returns : goal.returns
unfolding after calls_on fresh restarted
returns g c =
    let K = kind_of g.K.Charge in
    let p = g.P.Case.meaning c.args.pile in
    let tb = c.new.result in
    let blank = c.new.ensures in
    record {
      history =
          promised K g.met.K.Charge.laws p (g.met.P.Case.limits c.args.pile) [] _
          (record {
            state = ap₂ {C = State K} (λ (cs : List (List ℕ)) (x : Shape). state K (contents p).options cs None x) blank.conditions blank.work;
            noted = λ j h. absurd (omega (arith, length-learned (rows_of tb.work.learned), ap (λ (x : Shape). length x.learned) blank.work, h));
          });
      pile = refl;
    }
