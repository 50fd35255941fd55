use Rattle.std.proofs.Common.{Bool, true, sym, ap, ◌∙◌}
use Rattle.charges.specs.Generic.{kind_of}
use Rattle.charges.specs.Charges.{contents}
use Rattle.calculus.specs.Steps.{closed}
use Rattle.calculus.specs.Runs.{verdict, verdict_if, by_best}
use Rattle.literals.specs.Members.{member}
use Rattle.steps.specs.States.{best_seen}
use Rattle.search.specs.Stands.{stands}
use Rattle.search.specs.Replies.{verdict_of}
use Rattle.search.proofs.search.Search.verdict.Goals as goal

pub returns-then-not-is_closed : goal.returns-then-not-is_closed
unfolding verdict verdict_if closed
returns-then-not-is_closed g c =
    let K = kind_of g.K.Charge in
    let p = g.P.Case.meaning c.args.self.now.pile in
    ap (λ (b : Bool). verdict_of (verdict_if b (stands K p c.args.self.now).best)) c.if-not-is_closed.ensures

pub returns-in-Some : goal.returns-in-Some
unfolding verdict verdict_if by_best closed
returns-in-Some g c =
    let K = kind_of g.K.Charge in
    let p = g.P.Case.meaning c.args.self.now.pile in
    let n = (contents p).options in
    sym (ap (λ o. verdict_of (verdict_if true (best_seen K n o (member c.args.self.now.tables.work.choice)))) c.in-Some.is)
    ∙ ap (λ (b : Bool). verdict_of (verdict_if b (stands K p c.args.self.now).best)) c.if-not-is_closed.ensures

pub returns-in-None : goal.returns-in-None
unfolding verdict verdict_if by_best closed
returns-in-None g c =
    let K = kind_of g.K.Charge in
    let p = g.P.Case.meaning c.args.self.now.pile in
    let n = (contents p).options in
    sym (ap (λ o. verdict_of (verdict_if true (best_seen K n o (member c.args.self.now.tables.work.choice)))) c.in-None.is)
    ∙ ap (λ (b : Bool). verdict_of (verdict_if b (stands K p c.args.self.now).best)) c.if-not-is_closed.ensures
