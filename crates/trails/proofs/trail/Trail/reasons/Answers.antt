use Rattle.std.proofs.Common.{◌+◌, Bool, false, ◌||◌, sym, refl, ap, ◌∙◌, ap₂, arith}
use Rattle.std.proofs.lemmas.List.{get_or-replicate, take_all}
use Rattle.calculus.specs.Learned.{is_place, is_reason}
use Rattle.trails.specs.declared.entry.Entry.{Entry}
use Rattle.trails.specs.Entries.{reason_of, trail_of}
use Rattle.trails.proofs.Entries.{is_reason_none, is_reason_more}
use Rattle.trails.proofs.trail.Trail.reasons.Goals as goal

pub loop-e-init : goal.loop-e-init
loop-e-init c = record { full = refl; tells = λ j h. get_or-replicate 64 j false false h ∙ sym (is_reason_none (c.args.base + j)) }

pub loop-e-preserved : goal.loop-e-preserved
loop-e-preserved c =
    let es = c.as_slice-e-items.result.now in
    record {
      full = omega (arith, c.note.auto.named, c.loop-e.invariant.full);
      tells = λ j h.
          let b = c.args.base in
          c.note.ensures j (omega (arith, c.loop-e.invariant.full))
          ∙ ap₂ (λ (x y : Bool). x || y) (ap (λ (e : Entry). is_place (reason_of e.reason) (b + j)) c.e-item.is) (c.loop-e.invariant.tells j h)
          ∙ sym (is_reason_more es c.loop-e.e-index (b + j) c.e-item.result c.loop-e-test.true);
    }

pub returns : goal.returns
returns c =
    let is = c.as_slice-e-items.ensures in
    record {
      full = c.loop-e.invariant.full;
      tells = λ j h. c.loop-e.invariant.tells j h
          ∙ ap (λ fs. is_reason (trail_of fs) (c.args.base + j)) (take_all c.loop-e.e-index _ (omega arith) ∙ is);
    }
