use Rattle.std.proofs.Common.{◌≡◌, ℕ, Ok, Result, sym, refl, ap, ◌∙◌, subst, ap₂}
use Rattle.cases.specs.declared.refusal.Refusal.{Refusal}
use Rattle.charges.specs.Generic.{kind_of}
use Rattle.charges.specs.Charges.{contents}
use Rattle.calculus.specs.States.{State}
use Rattle.calculus.specs.Runs as runs
use Rattle.calculus.specs.Calls as calls
use Rattle.calculus.proofs.Piles.{call_oversize, call_sound, answer_oversize, answer_sound}
use Rattle.search.specs.declared.verdict.Verdict.{Verdict}
use Rattle.search.specs.Stands.{stands}
use Rattle.search.specs.Replies.{run_reply, verdict_of}
use Rattle.search.proofs.Led.{made_by}
use Rattle.search.proofs.search.Search.run.Goals as goal

pub returns-then-oversize : goal.returns-then-oversize
returns-then-oversize g c =
    let K = kind_of g.K.Charge in
    let p = g.P.Case.meaning c.args.self.now.pile in
    let s = stands K p c.args.self.now in
    let e = sym c.if-oversize.ensures in
    record {
      answers = sym (ap run_reply (answer_oversize K p s (calls.run c.args.budget) e));
      history = made_by K g.met.K.Charge.laws p (g.met.P.Case.limits c.args.self.now.pile) c.args.self.now _ (calls.run c.args.budget) refl (sym (call_oversize K p s (calls.run c.args.budget) e));
      pile = refl;
    }

pub returns : goal.returns
unfolding calls.call calls.answer
returns g c =
    let K = kind_of g.K.Charge in
    let M = g.P.Case.meaning in
    let p = M c.args.self.now.pile in
    let m = contents p in
    let s = stands K p c.args.self.now in
    let b = c.args.budget in
    let e = sym c.if-oversize.ensures in
    let u = c.steps_up_to-made.new.self in
    let left = c.steps_up_to-made.ensures.leaves in
    let same = c.steps_up_to-made.ensures.pile in
    let says : c.verdict.result ≡ verdict_of (runs.verdict m (runs.run_steps K m b s)) =
    subst (λ x. c.verdict.result ≡ verdict_of (runs.verdict (contents (M x)) (stands K (M x) u))) same c.verdict.ensures ∙ ap (λ (x : State K). verdict_of (runs.verdict m x)) left in
    record {
      answers = ap₂ {C = Result (ℕ × Verdict) Refusal} (λ (k : ℕ) (v : Verdict). Ok (k, v)) c.steps_up_to-made.ensures.answers says ∙ sym (ap run_reply (answer_sound K p s (calls.run b) e));
      history = made_by K g.met.K.Charge.laws p (g.met.P.Case.limits c.args.self.now.pile) c.args.self.now _ (calls.run b) (ap M same) (left ∙ sym (call_sound K p s (calls.run b) e));
      pile = same;
    }
