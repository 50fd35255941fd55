use Rattle.std.proofs.Common.{sym, arith}
use mathlib.Core.Option as core
use Rattle.cases.specs.declared.refusal.Refusal.TheVariants.{TooLong, NoSuchLiteral, Full}
use Rattle.charges.specs.Generic.{kind_of}
use Rattle.charges.specs.Charges.{contents}
use Rattle.charges.proofs.Contents.{contents_options}
use Rattle.calculus.specs.Calls.{add, checked}
use Rattle.tables.specs.Conditions.{conditions_of}
use Rattle.search.specs.Stands.{stands}
use Rattle.search.proofs.Checking.{done_oversize, done_add, add_long, add_unknown, add_full, add_fine}
use Rattle.search.proofs.search.Search.check_add.Goals as goal

pub returns-then-oversize : goal.returns-then-oversize
returns-then-oversize g c =
    let K = kind_of g.K.Charge in
    let p = g.P.Case.meaning c.args.self.now.pile in
    sym (done_oversize K p (stands K p c.args.self.now) (add c.args.literals.now) (sym c.if-oversize.ensures))

pub returns-then-literals-gt-LONGEST_CONDITION : goal.returns-then-literals-gt-LONGEST_CONDITION
unfolding checked
returns-then-literals-gt-LONGEST_CONDITION g c =
    let K = kind_of g.K.Charge in
    let p = g.P.Case.meaning c.args.self.now.pile in
    let r = c.args.literals.now in
    let cs = conditions_of c.args.self.now.tables.conditions in
    sym (done_add K p (stands K p c.args.self.now) (sym c.if-oversize.ensures) r (core.some TooLong) (add_long (contents p) cs r (omega arith)))

pub returns-then-past_all-options : goal.returns-then-past_all-options
unfolding checked
returns-then-past_all-options g c =
    let K = kind_of g.K.Charge in
    let p = g.P.Case.meaning c.args.self.now.pile in
    let r = c.args.literals.now in
    let cs = conditions_of c.args.self.now.tables.conditions in
    sym
    (done_add K p (stands K p c.args.self.now) (sym c.if-oversize.ensures) r (core.some NoSuchLiteral)
    (add_unknown (contents p) cs r (omega arith) (omega (arith, c.past_all.ensures, c.options.ensures, contents_options p, c.if-past_all-options.true))))

pub returns-then-len-ge-MOST_CONDITIONS : goal.returns-then-len-ge-MOST_CONDITIONS
unfolding checked
returns-then-len-ge-MOST_CONDITIONS g c =
    let K = kind_of g.K.Charge in
    let p = g.P.Case.meaning c.args.self.now.pile in
    let r = c.args.literals.now in
    let cs = conditions_of c.args.self.now.tables.conditions in
    sym
    (done_add K p (stands K p c.args.self.now) (sym c.if-oversize.ensures) r (core.some Full)
    (add_full (contents p) cs r (omega arith) (omega (arith, c.past_all.ensures, c.options.ensures, contents_options p, c.if-past_all-options.false)) (omega (arith, c.len.ensures.value, c.if-len-ge-MOST_CONDITIONS.true))))

pub returns-else-len-ge-MOST_CONDITIONS : goal.returns-else-len-ge-MOST_CONDITIONS
unfolding checked
returns-else-len-ge-MOST_CONDITIONS g c =
    let K = kind_of g.K.Charge in
    let p = g.P.Case.meaning c.args.self.now.pile in
    let r = c.args.literals.now in
    let cs = conditions_of c.args.self.now.tables.conditions in
    sym
    (done_add K p (stands K p c.args.self.now) (sym c.if-oversize.ensures) r core.none
    (add_fine (contents p) cs r (omega arith) (omega (arith, c.past_all.ensures, c.options.ensures, contents_options p, c.if-past_all-options.false)) (omega (arith, c.len.ensures.value, c.if-len-ge-MOST_CONDITIONS.false))))
