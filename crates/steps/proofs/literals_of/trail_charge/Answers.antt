use Rattle.std.proofs.Common.{◌≡◌, ℕ, ◌-◌, ◌*◌, length, take, drop, sym, ap, ◌∙◌, arith}
use Rattle.std.proofs.lemmas.List.{take_at}
use Rattle.charges.specs.Generic.{kind_of}
use Rattle.charges.specs.Charges.{contents, total}
use Rattle.charges.proofs.Contents.{contents_options, contents_amounts}
use Rattle.trails.specs.Entries.{literals_in}
use Rattle.trails.specs.Trails.{listed}
use Rattle.trails.proofs.Entries.{length-literals}
use Rattle.trails.proofs.Facts.{apart}
use Rattle.steps.proofs.Charged.{trail_total}
use Rattle.steps.proofs.literals_of.trail_charge.Goals as goal

pub returns : goal.returns
returns g c =
    let p = g.P.Case.meaning c.args.pile.now in
    let K = kind_of g.K.Charge in
    let m = contents p in
    let t = listed c.args.trail.now in
    let n : c.list-len.result - 0 ≡ c.list-len.result = omega arith in
    let each : length m.amounts ≡ 2 * m.options = ap length (contents_amounts p) ∙ (g.met.P.Case.limits c.args.pile.now).amount_each ∙ ap (λ (k : ℕ). 2 * k) (sym (contents_options p)) in
    let written = take_at (literals_in t) (drop c.list-len.result _) c.list-len.result (length-literals t ∙ sym c.list-len.ensures.answers) in
    c.charge_of.ensures.summed
    ∙ ap (total K m) (ap (λ (k : ℕ). take k c.list-len.new.into) n ∙ ap (take c.list-len.result) c.list-len.ensures.writes ∙ written)
    ∙ trail_total K g.met.K.Charge.laws m each 64 t (apart c.args.trail.now)
