use Rattle.std.proofs.Common.{sym, ◌∙◌}
use mathlib.Core.Option as core
use Rattle.cases.specs.declared.refusal.Refusal.TheVariants.{NothingToWithdraw}
use Rattle.charges.specs.Generic.{kind_of}
use Rattle.calculus.specs.Calls.{withdraw, checked}
use Rattle.tables.specs.Conditions.{conditions_of}
use Rattle.search.specs.Stands.{stands}
use Rattle.search.proofs.Checking.{done_oversize, done_withdraw, withdraw_none, withdraw_some}
use Rattle.search.proofs.search.Search.check_withdraw.Goals as goal

pub returns-then-oversize : goal.returns-then-oversize
returns-then-oversize g c =
    let K = kind_of g.K.Charge in
    let p = g.P.Case.meaning c.args.self.now.pile in
    sym (done_oversize K p (stands K p c.args.self.now) withdraw (sym c.if-oversize.ensures))

pub returns-then-len-eq0 : goal.returns-then-len-eq0
unfolding checked
returns-then-len-eq0 g c =
    let K = kind_of g.K.Charge in
    let p = g.P.Case.meaning c.args.self.now.pile in
    let cs = conditions_of c.args.self.now.tables.conditions in
    sym (done_withdraw K p (stands K p c.args.self.now) (sym c.if-oversize.ensures) (core.some NothingToWithdraw) (withdraw_none cs (sym c.len.ensures.value ∙ c.if-len-eq0.true)))

pub returns-else-len-eq0 : goal.returns-else-len-eq0
unfolding checked
returns-else-len-eq0 g c =
    let K = kind_of g.K.Charge in
    let p = g.P.Case.meaning c.args.self.now.pile in
    let cs = conditions_of c.args.self.now.tables.conditions in
    sym (done_withdraw K p (stands K p c.args.self.now) (sym c.if-oversize.ensures) core.none (withdraw_some cs (λ e. c.if-len-eq0.false (c.len.ensures.value ∙ e))))
