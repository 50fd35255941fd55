use Rattle.std.proofs.Common.{◌≡◌, ℕ, ◌+◌, ◌-◌, true, false, sym, refl, ap, ◌∙◌, subst, arith}
use Rattle.std.proofs.lemmas.Bool.{not-true, not-false}
use Rattle.charges.specs.Generic.{kind_of}
use Rattle.charges.specs.Charges.{contents}
use Rattle.calculus.specs.Steps.{closed, step}
use Rattle.calculus.specs.Runs.{run_steps, steps_made}
use Rattle.calculus.proofs.Calls.{run_closed, made_closed}
use Rattle.steps.specs.States.{seen}
use Rattle.steps.proofs.Staged.{step_closed}
use Rattle.search.specs.Stands.{stands}
use Rattle.search.proofs.Stepping.{run_more, made_more, run_done, made_done}
use Rattle.search.proofs.search.Search.steps_up_to.Goals as goal

pub loop-made-init : goal.loop-made-init
loop-made-init g c =
    let K = kind_of g.K.Charge in
    let p = g.P.Case.meaning c.args.self.now.pile in
    let s = stands K p c.args.self.now in
    let e : c.args.budget ≡ c.args.budget - 0 = omega arith in
    let two = ap (λ (j : ℕ). steps_made K (contents p) j s) e in
    (refl, ap (λ (j : ℕ). run_steps K (contents p) j s) e, omega (arith, two))

pub loop-made-preserved : goal.loop-made-preserved
loop-made-preserved g c =
    let K = kind_of g.K.Charge in
    let M = g.P.Case.meaning in
    let p = M c.args.self.now.pile in
    let m = contents p in
    let b = c.args.budget in
    let k = c.loop-made.made in
    let here = stands K p c.loop-made.self in
    let same = c.loop-made.invariant.0 in
    let next = seen K p c.step.new.best c.step.new.tables in
    let yet : closed m here ≡ false =
    ap (λ x. closed (contents (M x)) (stands K (M x) c.loop-made.self)) (sym same) ∙ not-true (closed (contents (M c.loop-made.self.pile)) (stands K (M c.loop-made.self.pile) c.loop-made.self)) (sym c.if-not-step.ensures.answers) in
    let moves : next ≡ step K m here =
    subst (λ x. seen K (M x) c.step.new.best c.step.new.tables ≡ step K (contents (M x)) (stands K (M x) c.loop-made.self)) same c.step.ensures.leaves in (
      same,
      c.loop-made.invariant.1 ∙ run_more K m b k here next c.loop-made-test.true yet moves,
      c.loop-made.invariant.2 ∙ made_more K m b k here next c.loop-made-test.true yet moves,
    )

pub returns-then-not-step : goal.returns-then-not-step
returns-then-not-step g c =
    let K = kind_of g.K.Charge in
    let M = g.P.Case.meaning in
    let p = M c.args.self.now.pile in
    let m = contents p in
    let b = c.args.budget in
    let k = c.loop-made.made in
    let here = stands K p c.loop-made.self in
    let same = c.loop-made.invariant.0 in
    let next = seen K p c.step.new.best c.step.new.tables in
    let shut : closed m here ≡ true =
    ap (λ x. closed (contents (M x)) (stands K (M x) c.loop-made.self)) (sym same) ∙ not-false (closed (contents (M c.loop-made.self.pile)) (stands K (M c.loop-made.self.pile) c.loop-made.self)) (sym c.if-not-step.ensures.answers) in
    let stays : next ≡ here =
    subst (λ x. seen K (M x) c.step.new.best c.step.new.tables ≡ step K (contents (M x)) (stands K (M x) c.loop-made.self)) same c.step.ensures.leaves ∙ step_closed K m here shut in
    record {
      answers = sym (c.loop-made.invariant.2 ∙ ap (λ (j : ℕ). k + j) (made_closed K m (b - k) here shut) ∙ omega arith);
      leaves = stays ∙ sym (c.loop-made.invariant.1 ∙ run_closed K m (b - k) here shut);
      pile = same;
    }

pub returns : goal.returns
returns g c =
    let K = kind_of g.K.Charge in
    let p = g.P.Case.meaning c.args.self.now.pile in
    let m = contents p in
    let b = c.args.budget in
    let k = c.loop-made.made in
    let here = stands K p c.loop-made.self in
    record {
      answers = sym (c.loop-made.invariant.2 ∙ ap (λ (j : ℕ). k + j) (made_done K m b k here (omega arith)) ∙ omega arith);
      leaves = sym (c.loop-made.invariant.1 ∙ run_done K m b k here (omega arith));
      pile = c.loop-made.invariant.0;
    }
