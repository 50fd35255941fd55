-- The notes of the rows stay right: when a literal joins or goes, when all are made anew, when a row leaves or is learned.
use Rattle.std.proofs.Common.{◌≡◌, ℕ, zero, suc, ◌+◌, ◌-◌, ◌<◌, ◌≤◌, Bool, true, false, ◌||◌, eqb, List, [], ◌∷◌, ◌++◌, length, get_or, sym, refl, ap, ◌∙◌, subst, ⊎_elim, arith}
use Rattle.std.proofs.lemmas.Bool.{both_ways, cases_Bool, cases_lt, cases_eq, or_left, eq-eqb, ne_eqb, eqb-true, le-leb, lt-leb, lt-ltb, le-ltb}
use Rattle.calculus.specs.Scans.{remove}
use Rattle.calculus.specs.Trails.{Reason, decided, forced, Entry, Trail}
use Rattle.calculus.specs.Learned.{is_place, is_reason, moved, renamed}
use Rattle.calculus.proofs.Scans.{length-remove, remove_past, get_d_remove_below, get_d_remove_above}
use Rattle.tables.specs.Rows.{Noted, nothing_noted}
use Rattle.tables.specs.Learned.{rules_learned}
use Rattle.tables.proofs.Facts.{length_marked, mark_here, mark_other, learned_marked}
use Rattle.steps.specs.Shapes.{mark_named, still_named}

-- The rows note which of them are reasons of the trail.
abbrev pub Notes : ℕ → Trail → List Noted → Type 0
Notes base t rs = (j : ℕ) → j < length rs → (get_or rs j nothing_noted).reason ≡ is_reason t (base + j)

-- what a change of the note at the place of a reason leaves
pub length_named : (base : ℕ) (r : Reason) (b : Bool) (rs : List Noted) → length (mark_named base r b rs) ≡ length rs
length_named base decided b rs = refl
length_named base (forced i) b rs =
    ⊎_elim (λ (h : i < base). rw (lt-leb base i h)) (λ (h : base ≤ i). rw (le-leb base i h) (length_marked (i - base) b rs)) (cases_lt i base)

named_at : (base : ℕ) (r : Reason) (b : Bool) (rs : List Noted) (j : ℕ) → j < length rs → is_place r (base + j) ≡ true → (get_or (mark_named base r b rs) j nothing_noted).reason ≡ b
unfolding is_place
named_at base decided b rs j h e = absurd (both_ways false refl e)
named_at base (forced i) b rs j h e =
    let q : i ≡ base + j = eqb-true i (base + j) e in
    let k : i - base ≡ j = omega arith in
    rw (le-leb base i (omega arith), k) (mark_here j b rs h)

named_else : (base : ℕ) (r : Reason) (b : Bool) (rs : List Noted) (j : ℕ) → is_place r (base + j) ≡ false → (get_or (mark_named base r b rs) j nothing_noted).reason ≡ (get_or rs j nothing_noted).reason
unfolding is_place
named_else base decided b rs j e = refl
named_else base (forced i) b rs j e =
    ⊎_elim
    (λ (h : i < base). rw (lt-leb base i h))
    (λ (h : base ≤ i). rw (le-leb base i h) (mark_other j (i - base) b rs (λ z. both_ways (eqb i (base + j)) e (eq-eqb i (base + j) (omega arith)))))
    (cases_lt i base)

-- a literal joins
pub notes_push : (base : ℕ) (e : Entry) (t : Trail) (rs : List Noted) → Notes base t rs → Notes base (e ∷ t) (mark_named base e.reason true rs)
unfolding is_reason
notes_push base e t rs h j l =
    let k : j < length rs = omega (arith, length_named base e.reason true rs) in
    ⊎_elim
    (λ (p : is_place e.reason (base + j) ≡ true). named_at base e.reason true rs j k p ∙ sym (or_left (is_place e.reason (base + j)) (is_reason t (base + j)) p))
    (λ (p : is_place e.reason (base + j) ≡ false). named_else base e.reason true rs j p ∙ h j k ∙ sym (rw p))
    (cases_Bool (is_place e.reason (base + j)))

still_at : (t : Trail) (r : Reason) (i : ℕ) → is_place r i ≡ true → still_named t r ≡ is_reason t i
unfolding is_place
still_at t decided i e = absurd (both_ways false refl e)
still_at t (forced j) i e = ap (is_reason t) (eqb-true j i e)

-- the last literal goes
pub notes_pop : (base : ℕ) (e : Entry) (t : Trail) (rs : List Noted) → Notes base (e ∷ t) rs → Notes base t (mark_named base e.reason (still_named t e.reason) rs)
unfolding is_reason
notes_pop base e t rs h j l =
    let b = still_named t e.reason in
    let k : j < length rs = omega (arith, length_named base e.reason b rs) in
    ⊎_elim
    (λ (p : is_place e.reason (base + j) ≡ true). named_at base e.reason b rs j k p ∙ still_at t e.reason (base + j) p)
    (λ (p : is_place e.reason (base + j) ≡ false). named_else base e.reason b rs j p ∙ h j k ∙ rw p)
    (cases_Bool (is_place e.reason (base + j)))

-- row p leaves, and the reasons past it are renamed. It is no reason, or it is past the last.
moved_above : (p : ℕ) (r : Reason) (i : ℕ) → p ≤ i → (is_place r p ≡ false) → is_place (moved p r) i ≡ is_place r (suc i)
unfolding is_place moved
moved_above p decided i h e = refl
moved_above p (forced q) i h e =
    let ne : q ≡ p → ⊥ = λ z. both_ways (eqb q p) e (eq-eqb q p z) in
    ⊎_elim
    (λ (k : p < q).
    rw (lt-ltb p q k)
    (⊎_elim (λ (z : q ≡ suc i). eq-eqb (q - 1) i (omega arith) ∙ sym (eq-eqb q (suc i) z)) (λ (z : q ≡ suc i → ⊥). ne_eqb (q - 1) i (λ y. z (omega arith)) ∙ sym (ne_eqb q (suc i) z)) (cases_eq q (suc i))))
    (λ (k : q ≤ p). rw (le-ltb p q k) (ne_eqb q i (λ z. ne (omega arith)) ∙ sym (ne_eqb q (suc i) (λ z. omega arith))))
    (cases_lt p q)

not_named_parts : (p : ℕ) (e : Entry) (t : Trail) → is_reason (e ∷ t) p ≡ false → (is_place e.reason p ≡ false) × (is_reason t p ≡ false)
unfolding is_reason
not_named_parts p e t h = both (is_place e.reason p) (is_reason t p) h
  where
    both : (a b : Bool) → (a || b) ≡ false → (a ≡ false) × (b ≡ false)
    both true b h = absurd (both_ways true h refl)
    both false b h = (refl, h)

renamed_above : (p : ℕ) (t : Trail) (i : ℕ) → p ≤ i → is_reason t p ≡ false → is_reason (renamed p t) i ≡ is_reason t (suc i)
unfolding renamed is_reason
renamed_above p [] i h e = refl
renamed_above p (x ∷ t) i h e =
    let w = not_named_parts p x t e in
    rw (moved_above p x.reason i h w.0, renamed_above p t i h w.1)

-- places up to p stay whatever the reasons are
low_moved : (p : ℕ) (r : Reason) (i : ℕ) → i < p → is_place (moved p r) i ≡ is_place r i
unfolding is_place moved
low_moved p decided i h = refl
low_moved p (forced q) i h =
    ⊎_elim
    (λ (k : p < q). rw (lt-ltb p q k) (ne_eqb (q - 1) i (λ z. omega arith) ∙ sym (ne_eqb q i (λ z. omega arith))))
    (λ (k : q ≤ p). rw (le-ltb p q k))
    (cases_lt p q)

low_renamed : (p : ℕ) (t : Trail) (i : ℕ) → i < p → is_reason (renamed p t) i ≡ is_reason t i
unfolding renamed is_reason
low_renamed p [] i h = refl
low_renamed p (x ∷ t) i h = rw (low_moved p x.reason i h, low_renamed p t i h)

pub notes_remove : (base p : ℕ) (t : Trail) (rs : List Noted) → p < length rs → is_reason t (base + p) ≡ false → Notes base t rs → Notes base (renamed (base + p) t) (remove p rs)
notes_remove base p t rs h free notes j l =
    let k = length-remove p rs h in
    ⊎_elim
    (λ (i : j < p). ap (λ (r : Noted). r.reason) (get_d_remove_below p j rs nothing_noted i) ∙ notes j (omega arith) ∙ sym (low_renamed (base + p) t (base + j) (omega arith)))
    (λ (i : p ≤ j).
    let q : base + suc j ≡ suc (base + j) = omega arith in
    ap (λ (r : Noted). r.reason) (get_d_remove_above p j rs nothing_noted i) ∙ notes (suc j) (omega arith) ∙ ap (is_reason t) q ∙ sym (renamed_above (base + p) t (base + j) (omega arith) free))
    (cases_lt j p)

-- where no row leaves, the rows stay
pub notes_stay : (base p : ℕ) (t : Trail) (rs : List Noted) → length rs ≤ p → Notes base t rs → Notes base (renamed (base + p) t) (remove p rs)
notes_stay base p t rs h notes =
    subst (λ (x : List Noted). Notes base (renamed (base + p) t) x) (sym (remove_past p rs h)) (λ j l. notes j l ∙ sym (low_renamed (base + p) t (base + j) (omega arith)))

-- the literal of the row that is learned joins with it as its reason
append_below : (rs : List Noted) (r : Noted) (j : ℕ) → j < length rs → get_or (rs ++ (r ∷ [])) j nothing_noted ≡ get_or rs j nothing_noted
append_below [] r j h = absurd (omega arith)
append_below (x ∷ rs) r zero h = refl
append_below (x ∷ rs) r (suc j) h = append_below rs r j (omega arith)

append_last : (rs : List Noted) (r : Noted) → get_or (rs ++ (r ∷ [])) (length rs) nothing_noted ≡ r
append_last [] r = refl
append_last (x ∷ rs) r = append_last rs r

length_push : (rs : List Noted) (r : Noted) → length (rs ++ (r ∷ [])) ≡ suc (length rs)
length_push [] r = refl
length_push (x ∷ rs) r = ap suc (length_push rs r)

pub notes_learn : (base : ℕ) (e : Entry) (t : Trail) (rs : List Noted) (r : Noted) → r.reason ≡ true → e.reason ≡ forced (base + length rs) → Notes base t rs → Notes base (e ∷ t) (rs ++ (r ∷ []))
unfolding is_reason is_place
notes_learn base e t rs r mark why notes j l =
    let k : j < suc (length rs) = omega (arith, length_push rs r) in
    let place : (i : ℕ) → is_place e.reason i ≡ eqb (base + length rs) i = λ i. ap (λ (x : Reason). is_place x i) why in
    ⊎_elim
    (λ (h : j < length rs).
    let p : is_place e.reason (base + j) ≡ false = place (base + j) ∙ ne_eqb (base + length rs) (base + j) (λ z. omega arith) in
    ap (λ (x : Noted). x.reason) (append_below rs r j h) ∙ notes j h ∙ sym (rw p))
    (λ (h : length rs ≤ j).
    let q : length rs ≡ j = omega arith in
    let p : is_place e.reason (base + j) ≡ true = place (base + j) ∙ eq-eqb (base + length rs) (base + j) (omega arith) in
    ap (λ (x : ℕ). (get_or (rs ++ (r ∷ [])) x nothing_noted).reason) (sym q) ∙ ap (λ (x : Noted). x.reason) (append_last rs r) ∙ mark ∙ sym (or_left (is_place e.reason (base + j)) (is_reason t (base + j)) p))
    (cases_lt j (length rs))

-- a change of a note leaves the learned rules
pub learned_named : (base : ℕ) (r : Reason) (b : Bool) (rs : List Noted) → rules_learned (mark_named base r b rs) ≡ rules_learned rs
learned_named base decided b rs = refl
learned_named base (forced i) b rs =
    ⊎_elim (λ (h : i < base). rw (lt-leb base i h)) (λ (h : base ≤ i). rw (le-leb base i h) (learned_marked (i - base) b rs)) (cases_lt i base)
