use Rattle.std.proofs.Common.{sym, refl, ap}
use Rattle.charges.specs.Generic.{kind_of}
use Rattle.calculus.specs.Calls as calls
use Rattle.calculus.proofs.Piles.{answer_oversize, answer_sound}
use Rattle.search.specs.Stands.{stands}
use Rattle.search.specs.Replies.{tally_reply}
use Rattle.search.proofs.Led.{stays_made}
use Rattle.search.proofs.search.Search.tally.Goals as goal

pub returns-then-oversize : goal.returns-then-oversize
unfolding calls.call
returns-then-oversize g c =
    let K = kind_of g.K.Charge in
    let x = c.args.self.now in
    let p = g.P.Case.meaning x.pile in
    record {
      answers = sym (ap tally_reply (answer_oversize K p (stands K p x) calls.tally (sym c.if-oversize.ensures)));
      history = stays_made K g.met.K.Charge.laws p (g.met.P.Case.limits x.pile) x calls.tally refl refl;
    }

pub returns : goal.returns
unfolding calls.call calls.answer
returns g c =
    let K = kind_of g.K.Charge in
    let x = c.args.self.now in
    let p = g.P.Case.meaning x.pile in
    record {
      answers = sym (ap tally_reply (answer_sound K p (stands K p x) calls.tally (sym c.if-oversize.ensures)));
      history = stays_made K g.met.K.Charge.laws p (g.met.P.Case.limits x.pile) x calls.tally refl refl;
    }
