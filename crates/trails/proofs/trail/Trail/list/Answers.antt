use Rattle.std.proofs.Common.{◌≡◌, ℕ, ◌++◌, length, drop, sym, ap, ◌∙◌, arith}
use Rattle.std.proofs.lemmas.List.{take_all}
use Rattle.shortlists.specs.ShortLists.{items_in}
use Rattle.trails.specs.declared.entry.Entry.{Entry}
use Rattle.trails.specs.Entries.{trail_of, literals_in}
use Rattle.trails.proofs.Entries.{length-trail, literals_none, write_turn}
use Rattle.trails.proofs.trail.Trail.list.Goals as goal

pub loop-i-init : goal.loop-i-init
loop-i-init c = literals_none c.args.into.now

pub loop-i-preserved : goal.loop-i-preserved
loop-i-preserved c =
    let t = c.args.self.now in
    let es = c.deref-e-items.result.now in
    write_turn es c.args.into.now c.loop-i.into c.loop-i.i _ c.e-item.result (omega (arith, t.low, ap length c.deref-e-items.ensures.0, c.told-into)) c.loop-i-test.true
    c.loop-i.invariant (ap (λ (e : Entry). e.literal) c.e-item.is)

pub returns : goal.returns
returns c =
    let t = c.args.self.now in
    let es = (items_in t.entries) in
    let is = c.deref-e-items.ensures.0 in
    let end : c.loop-i.i ≡ length es = omega (arith, ap length is) in
    record {
      answers = c.len.ensures.value ∙ sym (length-trail es);
      within = omega (arith, t.low, c.len.ensures.value);
      writes = c.loop-i.invariant ∙ ap (λ fs. literals_in (trail_of fs) ++ drop c.loop-i.i c.args.into.now) (take_all c.loop-i.i _ (omega (arith, ap length is)) ∙ is)
          ∙ ap (λ (k : ℕ). literals_in (trail_of es) ++ drop k c.args.into.now) (end ∙ sym c.len.ensures.value);
    }
