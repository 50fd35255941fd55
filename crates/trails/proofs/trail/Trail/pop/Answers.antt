use Rattle.std.proofs.Common.{◌≡◌, ℕ, zero, suc, take, [], sym, refl, ap, ◌∙◌, subst, arith}
use Rattle.calculus.specs.Trails.{Levelled}
use Rattle.literals.specs.Members.{member}
use Rattle.trails.specs.declared.entry.Entry.{Entry}
use Rattle.trails.specs.Entries.{trail_of, tail_of}
use Rattle.trails.specs.Kept.{WasUnset, WasNotFalse}
use Rattle.trails.proofs.Entries.{trail_none, length-more}
use Rattle.trails.proofs.Held.{grown, told_before, opposed_before}
use Rattle.trails.proofs.trail.Trail.pop.Goals as goal

nothing : (n : ℕ) → take {A = Entry} n [] ≡ []
nothing zero = refl
nothing (suc n) = refl

pub returns-in_default : goal.returns-in_default
returns-in_default c =
    let none = c.in_default.ensures.answers in
    ap trail_of (c.in_default.ensures.leaves ∙ ap (take _) none ∙ nothing _) ∙ trail_none ∙ sym (ap tail_of (ap trail_of none ∙ trail_none))

pub invariant_of-self-2 : goal.invariant_of-self-2
invariant_of-self-2 c =
    let t = c.args.self.now in
    let more = c.in-Some.ensures.answers in
    let now = grown _ _ _ more in
    let unset = subst WasUnset now t.was_unset in
    record {
      low = omega (arith, length-more _ _ _ more, t.low);
      told = λ x. c.remove.ensures x ∙ told_before _ _ _ more (member t.set) x unset.0 (t.told x);
      opposed = λ x. c.remove-2.ensures x ∙ opposed_before _ _ _ more (member t.against) x c.opposite.result unset.0 c.opposite.ensures (t.opposed x);
      levelled = (subst Levelled now t.levelled).1;
      was_unset = unset.1;
      was_not_false = (subst WasNotFalse now t.was_not_false).1;
    }

pub returns : goal.returns
returns c = sym (ap tail_of (grown _ _ _ c.in-Some.ensures.answers))
