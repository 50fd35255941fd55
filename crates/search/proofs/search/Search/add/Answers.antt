use Rattle.std.proofs.Common.{Err, sym, refl, ap, ◌∙◌}
use Rattle.std.proofs.lemmas.Result.{err_from_is_err_and}
use Rattle.charges.specs.Generic.{kind_of}
use Rattle.calculus.specs.Calls as calls
use Rattle.search.specs.Stands.{stands}
use Rattle.search.proofs.Checking.{add_accepted, add_refused, add_done}
use Rattle.search.proofs.Led.{made_by}
use Rattle.search.proofs.search.Search.add.Goals as goal

pub returns-in_err-check_add : goal.returns-in_err-check_add
returns-in_err-check_add g c =
    let K = kind_of g.K.Charge in
    let x = c.args.self.now in
    let p = g.P.Case.meaning x.pile in
    let q = err_from_is_err_and c.from_residual.result c.from_residual.ensures.1 in
    record {
      answers = q.1 ∙ ap Err q.2 ∙ c.in_err-check_add.ensures;
      history = made_by K g.met.K.Charge.laws p (g.met.P.Case.limits x.pile) x _ (calls.add c.args.literals.now) refl (sym (add_refused K p (stands K p x) c.args.literals.now c.in_err-check_add.field-0.0 c.in_err-check_add.ensures));
      pile = refl;
    }

pub take_in-requires : goal.take_in-requires
take_in-requires g c =
    let K = kind_of g.K.Charge in
    let x = c.args.self.now in
    let p = g.P.Case.meaning x.pile in
    (add_accepted K p (stands K p x) c.args.literals.now c.in_ok-check_add.ensures).1

pub returns : goal.returns
returns g c =
    let K = kind_of g.K.Charge in
    let x = c.args.self.now in
    let p = g.P.Case.meaning x.pile in
    let s = stands K p x in
    let ok = c.in_ok-check_add.ensures in
    let w = add_accepted K p s c.args.literals.now ok in
    record {
      answers = ok;
      history = made_by K g.met.K.Charge.laws p (g.met.P.Case.limits x.pile) x _ (calls.add c.args.literals.now) (ap g.P.Case.meaning c.take_in.ensures.pile) (c.take_in.ensures.leaves ∙ sym (add_done K p s c.args.literals.now w.0 w.1));
      pile = c.take_in.ensures.pile;
    }
