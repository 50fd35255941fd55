use Rattle.std.proofs.Common.{Bool, true, cond, List, sym, refl, ap, ◌∙◌, subst}
use Rattle.calculus.specs.States.{up}
use Rattle.calculus.specs.Trails.{Trail}
use Rattle.tables.specs.Rows.{Noted}
use Rattle.tables.specs.Learned.{rows_of, rules_learned}
use Rattle.trails.specs.Entries.{joined, reason_of}
use Rattle.trails.specs.Trails.{listed}
use Rattle.steps.specs.Shapes.{shape, pushing, mark_named}
use Rattle.steps.proofs.Shaped.{same_shape}
use Rattle.steps.proofs.Marking.{Notes, notes_push, learned_named}
use Rattle.steps.proofs.held.Work.push.Goals as goal

pub returns-then-push : goal.returns-then-push
unfolding up
returns-then-push c =
    let tb = c.args.self.now in
    let t = listed tb.trail in
    let rs = rows_of tb.learned in
    let r = reason_of c.args.reason in
    let trail = c.if-push.ensures.leaves in
    let rows = c.mark_reason.ensures in
    record {
      leaves =
          same_shape {b = pushing c.args.literal c.args.reason (shape tb)} trail refl refl (ap rules_learned rows ∙ learned_named c.args.base r true rs) refl c.saturating_add-self.ensures
          ∙ ap (λ (b : Bool). cond b (pushing c.args.literal c.args.reason (shape tb)) (shape tb)) c.if-push.ensures.answers;
      notes = λ h.
          let next : Notes c.args.base (joined c.args.literal c.args.reason t) (mark_named c.args.base r true rs) = notes_push c.args.base _ t rs h in
          subst (λ (x : List Noted). Notes c.args.base (listed c.push.new.self) x) (sym rows) (subst (λ (x : Trail). Notes c.args.base x (mark_named c.args.base r true rs)) (sym trail) next);
    }

pub returns-else-push : goal.returns-else-push
returns-else-push c =
    let tb = c.args.self.now in
    let trail = c.if-push.ensures.leaves in
    record {
      leaves =
          same_shape {b = shape tb} trail refl refl refl refl refl
          ∙ ap (λ (b : Bool). cond b (pushing c.args.literal c.args.reason (shape tb)) (shape tb)) c.if-push.ensures.answers;
      notes = λ h. subst (λ (x : Trail). Notes c.args.base x (rows_of tb.learned)) (sym trail) h;
    }
