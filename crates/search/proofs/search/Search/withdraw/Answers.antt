use Rattle.std.proofs.Common.{ℕ, List, Err, sym, refl, ap, ◌∙◌, ap₂}
use Rattle.std.proofs.lemmas.Result.{err_from_is_err_and}
use Rattle.cases.specs.Literals.{Literals}
use Rattle.charges.specs.Generic.{kind_of}
use Rattle.charges.specs.Charges.{contents}
use Rattle.calculus.specs.States.{State, restarted}
use Rattle.calculus.specs.Calls.{withdrawn}
use Rattle.calculus.specs.Calls as calls
use Rattle.tables.specs.Conditions.{conditions_of}
use Rattle.tables.specs.Learned.{rules_learned}
use Rattle.steps.specs.States.{state}
use Rattle.search.specs.Stands.{stands}
use Rattle.search.proofs.Checking.{withdraw_accepted, withdraw_refused, withdraw_done}
use Rattle.search.proofs.Led.{made_by}
use Rattle.search.proofs.search.Search.withdraw.Goals as goal

pub returns-in_err-check_withdraw : goal.returns-in_err-check_withdraw
returns-in_err-check_withdraw g c =
    let K = kind_of g.K.Charge in
    let x = c.args.self.now in
    let p = g.P.Case.meaning x.pile in
    let q = err_from_is_err_and c.from_residual.result c.from_residual.ensures.1 in
    record {
      answers = q.1 ∙ ap Err q.2 ∙ c.in_err-check_withdraw.ensures;
      history = made_by K g.met.K.Charge.laws p (g.met.P.Case.limits x.pile) x _ calls.withdraw refl (sym (withdraw_refused K p (stands K p x) c.in_err-check_withdraw.field-0.0 c.in_err-check_withdraw.ensures));
      pile = refl;
    }

pub returns : goal.returns
unfolding withdrawn restarted
returns g c =
    let K = kind_of g.K.Charge in
    let x = c.args.self.now in
    let p = g.P.Case.meaning x.pile in
    let s = stands K p x in
    let ok = c.in_ok-check_withdraw.ensures in
    let w = withdraw_accepted K p s ok in
    record {
      answers = ok;
      history =
          made_by K g.met.K.Charge.laws p (g.met.P.Case.limits x.pile) x _ calls.withdraw refl
          (ap (state K (contents p).options (conditions_of c.let_go.new.self) x.best) c.restart.ensures.leaves
          ∙ ap₂ {C = State K} (λ (cs : List (List ℕ)) (ls : List Literals). restarted {K = K} cs s.best ls) c.let_go.ensures (ap rules_learned c.clear.ensures)
          ∙ sym (withdraw_done K p s w.0 w.1));
      pile = refl;
    }
