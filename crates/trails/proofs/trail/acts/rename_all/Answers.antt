use Rattle.std.proofs.Common.{◌≡◌, ◌+◌, ◌<◌, get_or, length, take, refl, ap, ◌∙◌, arith}
use Rattle.std.proofs.lemmas.List.{get_or-set_other, length-set}
use Rattle.calculus.specs.Learned.{moved}
use Rattle.calculus.specs.Trails as calculus
use Rattle.shortlists.specs.ShortLists.{items_in}
use Rattle.trails.specs.declared.entry.Entry.{Entry}
use Rattle.trails.specs.Entries.{reason_of, trail_of}
use Rattle.trails.proofs.Entries.{renamed_none, renamed_turn}
use Rattle.trails.proofs.trail.acts.rename_all.Goals as goal

pub loop-at-init : goal.loop-at-init
loop-at-init c = record { long = refl; done = renamed_none c.args.gone; left = λ k d h. refl }

pub loop-at-preserved : goal.loop-at-preserved
loop-at-preserved c =
    let now = items_in c.loop-at.entries in
    let old = items_in c.args.entries.now in
    let at = c.loop-at.at in
    let e : Entry = c.index-as_slice-at.result in
    let here : e ≡ get_or now at e = c.index-as_slice-at.is ∙ ap (λ es. get_or es at e) c.as_slice.ensures in
    let is : e ≡ get_or old at e = here ∙ c.loop-at.invariant.left at e (omega arith) in
    let within : at < length now = omega (arith, c.loop-at-test.true, c.loop-at.auto.at-end, c.len-at-end.ensures.value) in
    record {
      long = ap length c.set.ensures ∙ length-set now at _ ∙ c.loop-at.invariant.long;
      done = ap (λ es. trail_of (take (at + 1) es)) c.set.ensures
          ∙ renamed_turn old now c.args.gone at _ e within (omega (arith, within, c.loop-at.invariant.long)) c.loop-at.invariant.done
          (ap (λ (r : calculus.Reason). record { literal = e.literal; level = e.level; reason = r }) c.renamed.ensures
          ∙ ap (λ (a : Entry). record { literal = a.literal; level = a.level; reason = moved c.args.gone (reason_of a.reason) }) is);
      left = λ k d h. ap (λ es. get_or es k d) c.set.ensures ∙ get_or-set_other now at k _ d (omega arith) ∙ c.loop-at.invariant.left k d (omega arith);
    }
