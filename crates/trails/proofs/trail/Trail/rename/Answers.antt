use Rattle.std.proofs.Common.{length, sym, ap, ◌∙◌, subst, arith}
use Rattle.cases.specs.Literals.{complement}
use Rattle.calculus.specs.Trails.{Trail, on, Levelled}
use Rattle.calculus.proofs.Reasons.{on_renamed, length-renamed, levelled_renamed, distinct_renamed}
use Rattle.shortlists.specs.ShortLists.{items_in}
use Rattle.trails.specs.Kept.{WasUnset, WasNotFalse}
use Rattle.trails.specs.Trails.{listed}
use Rattle.trails.proofs.Entries.{length-trail}
use Rattle.trails.proofs.Facts.{apart}
use Rattle.trails.proofs.Held.{unset_of, not_false_of}
use Rattle.trails.proofs.trail.Trail.rename.Goals as goal

pub invariant_of-self : goal.invariant_of-self
invariant_of-self c =
    let t = c.args.self.now in
    let p = c.args.gone in
    let now = c.rename_all.ensures in
    let free = distinct_renamed 64 p _ (apart t) in
    record {
      low = omega (arith, length-trail (items_in c.rename_all.new.entries), ap length now, length-renamed p (listed t), length-trail (items_in t.entries), t.low);
      told = λ x. t.told x ∙ sym (ap (λ (r : Trail). on r x) now ∙ on_renamed p _ x);
      opposed = λ x. t.opposed x ∙ sym (ap (λ (r : Trail). on r (complement x)) now ∙ on_renamed p _ (complement x));
      levelled = subst Levelled (sym now) (levelled_renamed p _ t.levelled);
      was_unset = subst WasUnset (sym now) (unset_of 64 _ free);
      was_not_false = subst WasNotFalse (sym now) (not_false_of 64 _ free);
    }
