use Rattle.std.proofs.Common.{◌≡◌, ℕ, ◌<◌, true, List, [], ◌∷◌, ◌++◌, length, Bool, nat_lt, if◌then◌else◌, sym, ap, ◌∙◌, subst, arith}
use Rattle.std.proofs.lemmas.Bool.{lt-ltb}
use Rattle.calculus.specs.Trails as calculus
use Rattle.shortlists.specs.ShortLists.{items_in}
use Rattle.literals.specs.Members.{member}
use Rattle.trails.specs.declared.entry.Entry.{Entry}
use Rattle.trails.specs.declared.trail.Trail.{Trail}
use Rattle.trails.specs.Entries.{reason_of}
use Rattle.trails.specs.Kept.{WasUnset, WasNotFalse}
use Rattle.trails.specs.Trails as specs
use Rattle.trails.proofs.Entries.{length-trail, length-more}
use Rattle.trails.proofs.Held.{place_parts, grown, told_later, opposed_later}
use Rattle.trails.proofs.trail.Trail.push.Goals as goal

-- a literal that can join finds the trail not full
room : (t : Trail) (l : ℕ) → true ≡ specs.has_place (specs.listed t) l → length (items_in t.entries) < 56
room t l h = omega (arith, (place_parts (specs.listed t) l (sym h)).0, length-trail (items_in t.entries))

-- an entry that is put on a list with room for it stands at its end
joins : (es fs : List Entry) (e : Entry) (b : Bool) → length es < 56 → b ≡ nat_lt (length es) 56 → fs ≡ (if b then es ++ e ∷ [] else es) → fs ≡ es ++ e ∷ []
joins es fs e b h is leaves = leaves ∙ ap (λ (a : Bool). if a then es ++ e ∷ [] else es) (is ∙ lt-ltb (length es) 56 h)

level_opened : (l k : ℕ) (r : calculus.Reason) (t : calculus.Trail) → k ≡ calculus.opened r (calculus.level t) → k ≡ calculus.level (record { literal = l; level = k; reason = r } ∷ t)
unfolding calculus.level
level_opened l k r t h = h

pub invariant_of-self : goal.invariant_of-self
invariant_of-self c =
    let t = c.args.self.now in
    let l = c.args.literal in
    let fits = room t l c.if-not-can_join.ensures in
    let free = place_parts (specs.listed t) l (sym c.if-not-can_join.ensures) in
    let more = joins (items_in t.entries) (items_in c.push.new.self) _ c.push.result fits c.push.ensures.answers c.push.ensures.leaves in
    let now = grown _ _ _ more in
    let right = level_opened l c.opens-level.result (reason_of c.args.reason) (specs.listed t) (c.opens-level.ensures ∙ ap (calculus.opened (reason_of c.args.reason)) c.level.ensures.answers) in
    record {
      low = omega (arith, length-more _ _ _ more, fits);
      told = λ x. c.insert.ensures x ∙ told_later _ _ _ more (member t.set) x (t.told x);
      opposed = λ x. c.insert-2.ensures x ∙ opposed_later _ _ _ more (member t.against) x c.opposite.result c.opposite.ensures (t.opposed x);
      levelled = subst calculus.Levelled (sym now) (right, t.levelled);
      was_unset = subst WasUnset (sym now) (free.2, t.was_unset);
      was_not_false = subst WasNotFalse (sym now) (free.3, t.was_not_false);
    }

pub returns-clause-leaves : goal.returns-clause-leaves
returns-clause-leaves c =
    let t = c.args.self.now in
    grown _ _ _ (joins (items_in t.entries) (items_in c.push.new.self) _ c.push.result (room t c.args.literal c.if-not-can_join.ensures) c.push.ensures.answers c.push.ensures.leaves)
    ∙ ap (λ (k : ℕ). record { literal = c.args.literal; level = k; reason = reason_of c.args.reason } ∷ specs.listed t)
    (c.opens-level.ensures ∙ ap (calculus.opened (reason_of c.args.reason)) c.level.ensures.answers)
