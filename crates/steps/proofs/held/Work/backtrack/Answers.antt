use Rattle.std.proofs.Common.{◌≡◌, ℕ, ◌+◌, ◌<◌, ◌≤◌, Bool, true, cond, not, List, [], ◌∷◌, ◌++◌, length, get_or, None, sym, refl, ap, ◌∙◌, subst, ap₂, ⊎_elim, arith}
use Rattle.std.proofs.lemmas.Bool.{lt-ltb, cases_lt}
use Rattle.cases.specs.Literals.{Literals}
use Rattle.calculus.specs.Scans.{remove}
use Rattle.calculus.specs.States.{up}
use Rattle.calculus.specs.Trails.{Trail, level, cut, forced, opened}
use Rattle.calculus.specs.Learned.{is_reason, leaving, renamed}
use Rattle.calculus.proofs.Trails.{cut_level_exact}
use Rattle.calculus.proofs.Reasons.{level_renamed}
use Rattle.literals.specs.Members.{member}
use Rattle.tables.specs.Rows.{Noted, noted, noting, nothing_noted}
use Rattle.tables.specs.Learned.{rows_of, rules_learned}
use Rattle.tables.proofs.Facts.{length-rows, length-noting, learned_noting, note_at, learned_remove, learned-append, length-learned}
use Rattle.trails.specs.Entries.{joined}
use Rattle.trails.specs.Trails.{listed, has_place}
use Rattle.trails.proofs.Facts.{levelled, few}
use Rattle.trails.specs.declared.entry.Reason.TheVariants.{Forced}
use Rattle.steps.specs.Shapes.{shape, backed}
use Rattle.steps.proofs.Shaped.{same_shape}
use Rattle.steps.proofs.Marking.{Notes, notes_remove, notes_stay, notes_learn}
use Rattle.steps.proofs.Places.{leaving_le, leaving_noted, Dropped, dropped, cut_shorter, place_renamed}
use Rattle.steps.proofs.held.Work.backtrack.Goals as goal

pub overflow_add-base : goal.overflow_add-base
overflow_add-base c =
    let rs = rows_of c.note.new.self in
    omega (arith, c.requires.few, c.leaving-p.ensures, leaving_le (length rs) (λ j. not (get_or rs j nothing_noted).reason), length-rows c.note.new.self)

joined_at : (l i place q : ℕ) (t : Trail) → level t ≡ i → place ≡ q → joined l (Forced place) t ≡ record { literal = l; level = i; reason = forced q } ∷ t
unfolding opened
joined_at l i place q t e f = ap₂ {C = Trail} (λ (k r : ℕ). record { literal = l; level = k; reason = forced r } ∷ t) e f

pub returns : goal.returns
unfolding up
returns c =
    let tb = c.args.self.now in
    let base = c.args.base in
    let i = c.args.i in
    let L = c.args.literal in
    let D = member c.args.set in
    let t = listed tb.trail in
    let t1 = cut i t in
    let rs = rows_of tb.learned in
    let lower = c.requires.lower in
    -- all rows note anew
    let n1 = rows_of c.note.new.self in
    let bs = c.reasons-reasons.result in
    let renoted : n1 ≡ noting bs rs = c.note.ensures in
    let same_length : length n1 ≡ length rs = ap length renoted ∙ length-noting bs rs in
    let notes1 : Notes base t1 n1 =
    subst (λ (x : List Noted). Notes base t1 x) (sym renoted)
    (λ j h.
    let k : j < length rs = omega (arith, length-noting bs rs) in
    note_at bs rs j k ∙ c.reasons-reasons.ensures.tells j (omega (arith, length-rows tb.learned)) ∙ ap (λ (x : Trail). is_reason x (base + j)) c.cut.ensures) in
    let learned1 : rules_learned n1 ≡ rules_learned rs = ap rules_learned renoted ∙ learned_noting bs rs in
    -- a row may leave
    let p = c.leaving-p.result in
    let gone : p ≡ leaving base t1 (rules_learned n1) = c.leaving-p.ensures ∙ leaving_noted base t1 n1 notes1 in
    let told : p ≡ leaving base t1 (rules_learned rs) = gone ∙ ap (leaving base t1) learned1 in
    let drop : Dropped base t1 n1 p =
    subst (Dropped base t1 n1) (sym gone)
    (dropped base t1 n1 (omega (arith, length-rows c.note.new.self)) (omega (arith, cut_shorter i t (levelled tb.trail) lower, few tb.trail))) in
    let r1 = rows_of c.remove.new.self in
    let removed : r1 ≡ remove p n1 = c.remove.ensures in
    let t2 = listed c.rename.new.self in
    let moved : t2 ≡ renamed (base + p) t1 = c.rename.ensures ∙ ap (renamed (base + p)) c.cut.ensures in
    let notes2 : Notes base t2 r1 =
    subst (λ (x : Trail). Notes base x r1) (sym moved)
    (subst (λ (x : List Noted). Notes base (renamed (base + p) t1) x) (sym removed)
    (⊎_elim (λ (h : p < length n1). notes_remove base p t1 n1 h (drop.free h) notes1) (λ (h : length n1 ≤ p). notes_stay base p t1 n1 h notes1) (cases_lt p (length n1)))) in
    -- the set is learned
    let kept = remove p (rules_learned rs) in
    let learned2 : rules_learned r1 ≡ kept = ap rules_learned removed ∙ learned_remove p n1 ∙ ap (remove p) learned1 in
    let room : c.learn.result ≡ true = c.learn.ensures.answers ∙ lt-ltb (length r1) 64 (omega (arith, ap length removed, drop.room)) in
    let row = noted c.args.set true in
    let rows : rows_of c.learn.new.self ≡ r1 ++ (row ∷ []) = c.learn.ensures.leaves ∙ ap (λ (b : Bool). cond b (r1 ++ (row ∷ [])) r1) room in
    -- its literal joins
    let place : c.push.result ≡ true = c.push.ensures.answers ∙ ap (λ (x : Trail). has_place x L) moved ∙ place_renamed (base + p) t1 L ∙ c.requires.room in
    let at = base + c.len.result in
    let trail : listed c.push.new.self ≡ joined L (Forced at) t2 = c.push.ensures.leaves ∙ ap (λ (b : Bool). cond b (joined L (Forced at) t2) t2) place in
    let high : level t2 ≡ i = ap level moved ∙ level_renamed (base + p) t1 ∙ cut_level_exact i t (levelled tb.trail) (omega (arith, lower)) in
    let where_at : at ≡ base + length kept = omega (arith, c.len.ensures.answers, length-learned r1, ap length learned2) in
    let joins : listed c.push.new.self ≡ record { literal = L; level = i; reason = forced (base + length kept) } ∷ renamed (base + p) t1 =
    trail ∙ joined_at L i at (base + length kept) t2 high where_at ∙ ap (λ (x : Trail). record { literal = L; level = i; reason = forced (base + length kept) } ∷ x) moved in
    let made : shape (record { trail = c.push.new.self; conflict = None; choice = tb.choice; learned = c.learn.new.self; conflicts = tb.conflicts; steps = c.saturating_add-self.result })
    ≡ backed base D L i p (shape tb) =
    same_shape joins refl refl (ap rules_learned rows ∙ learned-append r1 row ∙ ap (λ (x : List Literals). x ++ (D ∷ [])) learned2) refl c.saturating_add-self.ensures in
    record {
      leaves = made ∙ ap (λ (x : ℕ). backed base D L i x (shape tb)) told;
      notes =
          subst (λ (x : List Noted). Notes base (listed c.push.new.self) x) (sym rows)
          (subst (λ (x : Trail). Notes base x (r1 ++ (row ∷ []))) (sym trail) (notes_learn base _ t2 r1 row refl (ap forced (omega (arith, c.len.ensures.answers))) notes2));
    }
