use Rattle.std.proofs.Common.{Bool, List, ◌∷◌, sym, refl, ap, ◌∙◌, subst}
use Rattle.calculus.specs.States.{up}
use Rattle.calculus.specs.Trails.{Trail}
use Rattle.literals.specs.Members.{member}
use Rattle.tables.specs.Rows.{Noted}
use Rattle.tables.specs.Learned.{rows_of, rules_learned}
use Rattle.trails.specs.Entries.{entry_of, reason_of, tail_of}
use Rattle.trails.specs.Trails.{listed}
use Rattle.steps.specs.Shapes.{shape, popping, mark_named, still_named}
use Rattle.steps.proofs.Shaped.{same_shape}
use Rattle.steps.proofs.Marking.{Notes, notes_pop, learned_named}
use Rattle.steps.proofs.held.Work.pop.Goals as goal

pub returns : goal.returns
unfolding up
returns c =
    let tb = c.args.self.now in
    let base = c.args.base in
    let t = tail_of (listed tb.trail) in
    let rs = rows_of tb.learned in
    let r = reason_of c.args.top.reason in
    let trail = c.pop.ensures in
    let named = c.is_named-named.ensures ∙ ap (λ (x : Trail). still_named x r) trail in
    let rows = c.mark_reason.ensures ∙ ap (λ (b : Bool). mark_named base r b rs) named in
    record {
      leaves =
          same_shape {b = popping (member c.args.set) (shape tb)} trail refl refl (ap rules_learned rows ∙ learned_named base r (still_named t r) rs) refl c.saturating_add-self.ensures;
      notes = λ h.
          let here : Notes base (entry_of c.args.top ∷ t) rs = subst (λ (x : Trail). Notes base x rs) c.requires h in
          let next : Notes base t (mark_named base r (still_named t r) rs) = notes_pop base (entry_of c.args.top) t rs here in
          subst (λ (x : List Noted). Notes base (listed c.pop.new.self) x) (sym rows) (subst (λ (x : Trail). Notes base x (mark_named base r (still_named t r) rs)) (sym trail) next);
    }
