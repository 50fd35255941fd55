use Rattle.std.proofs.Common.{◌≡◌, ℕ, ◌+◌, ◌-◌, ◌<◌, ◌≤◌, Bool, true, false, ◌||◌, eqb, List, length, get_or, set, sym, ap, ◌∙◌, ⊎_elim, arith}
use Rattle.std.proofs.lemmas.List.{get_or-set_same, get_or-set_other}
use Rattle.std.proofs.lemmas.Bool.{cases_eq, eq-eqb, ne_eqb}
use Rattle.calculus.specs.Learned.{is_place}
use Rattle.trails.specs.declared.entry.Reason.{Reason}
use Rattle.trails.specs.Entries.{reason_of}
use Rattle.trails.proofs.trail.reasons.note.Goals as goal
use Rattle.trails.proofs.trail.reasons.note.Goals.{else-place-base-via-then-place-base+else-place-base-2, else-place-base-via-else-place-base}

noted : (xs : List Bool) (place base j : ℕ) → base ≤ place → place - base < length xs → get_or (set xs (place - base) true) j false ≡ (eqb place (base + j) || get_or xs j false)
noted xs place base j h l =
    ⊎_elim
    (λ (q : j ≡ place - base).
    rw (eq-eqb place (base + j) (omega arith)) (ap (λ (k : ℕ). get_or (set xs (place - base) true) k false) q ∙ get_or-set_same xs (place - base) true false l))
    (λ (q : j ≡ place - base → ⊥). rw (ne_eqb place (base + j) (λ z. q (omega arith))) (get_or-set_other xs (place - base) j true false q))
    (cases_eq j (place - base))

pub returns-in_default : goal.returns-in_default
unfolding is_place
returns-in_default c j h =
    sym (ap (λ (r : Reason). is_place (reason_of r) (c.args.base + j) || get_or c.args.named.now j false) c.in_default.is)

pub returns-then-place-base-2 : goal.returns-then-place-base-2
unfolding is_place
returns-then-place-base-2 c j h =
    let xs = c.args.named.now in
    noted xs c.from-place.result c.args.base j c.if-place-base.true c.if-place-base-2.true
    ∙ ap (λ (p : ℕ). eqb p (c.args.base + j) || get_or xs j false) c.from-place.ensures
    ∙ sym (ap (λ (r : Reason). is_place (reason_of r) (c.args.base + j) || get_or xs j false) c.in-Forced.is)

pub returns-else-place-base : goal.returns-else-place-base
unfolding is_place
returns-else-place-base c j h =
    let xs = c.args.named.now in
    let is = c.from-place.ensures in
    let other : c.in-Forced.place ≡ c.args.base + j → ⊥ =
    elim c.else-place-base.branch [
      | else-place-base-via-then-place-base+else-place-base-2 w ↦ λ z. omega (arith, w.if-place-base-2.false)
      | else-place-base-via-else-place-base w ↦ λ z. omega (arith, w.if-place-base.false)
    ]
    in
    sym (ap (λ (r : Reason). is_place (reason_of r) (c.args.base + j) || get_or xs j false) c.in-Forced.is
    ∙ ap (λ (b : Bool). b || get_or xs j false) (ne_eqb c.in-Forced.place (c.args.base + j) other))
