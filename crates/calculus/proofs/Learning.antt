-- A set that is learned is not the set of any rule in force or row: a rule with that set would have forced its literal
-- before the next literal was decided. From the invariant.
use Rattle.std.proofs.Common.{◌≡◌, ℕ, ◌+◌, ◌-◌, ◌*◌, ◌<◌, ◌≤◌, true, false, ◌||◌, eqb, leb, ◌⊎◌, [], ◌∷◌, length, get_or, sym, refl, ap, ◌∙◌, subst, inl, inr, ⊎_elim, arith}
use mathlib.Core.Option.{some}
use Rattle.std.proofs.lemmas.Bool.{both_ways, cases_Bool, cases_lt, cases_eq, or_right, ne_eqb, cond_both}
use Rattle.cases.specs.Meanings.{Sound}
use Rattle.cases.specs.Literals.{Literals, complement}
use Rattle.charges.specs.Kinds.{Kind}
use Rattle.calculus.specs.Trails.{Trail, on, Reason, decided, forced, cut, opened, Levelled, level, Entry, level_of}
use Rattle.calculus.specs.States.{State, clauses, clause, in_force}
use Rattle.calculus.specs.Learned.{moved, renamed, leaving}
use Rattle.calculus.specs.Changes.{conflicted, improved, pushed, backtracked, popped}
use Rattle.calculus.specs.Calculus.{Free, Asserts}
use Rattle.calculus.proofs.Literals.{complement_twice}
use Rattle.calculus.proofs.Trails.{cut_top, cut_all, Distinct, cut_on, level_of_le, opened_up, cut_level, on_one, cut_distinct, cut_levelled, asserts_lower, cut_keeps}
use Rattle.calculus.proofs.Reasons.{on_renamed, free_renamed}
use Rattle.calculus.proofs.Invariant.{clause_rule, length-clauses, clause_row, Inv}
use Rattle.calculus.proofs.Keeping.{learned_implied, free_cut}

-- C has a literal that is true under the trail, or two that are unset: nothing follows from C yet.
abbrev pub Quiet : ℕ → Trail → Literals → Type 0
Quiet n t C =
    ((x : ℕ) × (x < 2 * n) × (C x ≡ true) × (on t x ≡ true))
    ⊎ ((x : ℕ) × (y : ℕ) × (x ≡ y → ⊥) × (C x ≡ true) × (C y ≡ true) × Free n t x × Free n t y)

-- P holds of the trail before each decided entry.
abbrev pub AtDecision : Reason → Type 0 → Type 0
AtDecision decided P = P
AtDecision (forced i) P = Unit {0}

abbrev pub Before : (Trail → Type 0) → Trail → Type 0
Before P [] = Unit {0}
Before P (e ∷ t) = AtDecision e.reason (P t) × Before P t

-- Nothing followed from any clause when a literal was decided.
abbrev pub Patient : {K : Kind} → Sound → State K → Type 0
Patient m s = Before (λ t. (j : ℕ) → j < length (clauses m s) → Quiet m.options t (clause (clauses m s) j)) s.trail

before_cut : (P : Trail → Type 0) (i : ℕ) (t : Trail) → Before P t → Before P (cut i t)
unfolding cut
before_cut P i [] h = h
before_cut P i (e ∷ t) h = cond_both (leb e.level i) (e ∷ t) (cut i t) (λ (z : Trail). Before P z) (λ _. h) (λ _. before_cut P i t h.1)

at_renamed : (q : ℕ) (r : Reason) (P Q R : Type 0) → AtDecision r P → AtDecision r Q → (P → Q → R) → AtDecision (moved q r) R
unfolding moved
at_renamed q decided P Q R p z f = f p z
at_renamed q (forced i) P Q R p z f = tt

before_renamed : (P Q R : Trail → Type 0) (q : ℕ) (t : Trail) → Before P t → Before Q t → ((u : Trail) → P u → Q u → R (renamed q u)) → Before R (renamed q t)
unfolding renamed
before_renamed P Q R q [] h k f = tt
before_renamed P Q R q (e ∷ t) h k f = (at_renamed q e.reason (P t) (Q t) (R (renamed q t)) h.0 k.0 (f t), before_renamed P Q R q t h.1 k.1 f)

-- a level above i was opened by a decision on the trail up to i
at_opened : (r : Reason) (k i : ℕ) (P : Type 0) → i < opened r k → k ≤ i → AtDecision r P → P
unfolding opened
at_opened decided k i P h l p = p
at_opened (forced j) k i P h l p = absurd (omega arith)

before_at : (P : Trail → Type 0) (i : ℕ) (t : Trail) → Levelled t → i < level t → Before P t → P (cut i t)
unfolding level
before_at P i [] w h b = absurd (omega arith)
before_at P i (e ∷ t) w h b =
    rw (cut_top e t i w h)
    (⊎_elim (λ (k : i < level t). before_at P i t w.1 k b.1) (λ (k : level t ≤ i). rw (cut_all i t w.1 k) (at_opened e.reason (level t) i (P t) h k b.0)) (cases_lt i (level t)))

quiet_renamed : (n q : ℕ) (t : Trail) (C : Literals) → Quiet n t C → Quiet n (renamed q t) C
quiet_renamed n q t C (inl w) = inl (w.0, w.1, w.2, on_renamed q t w.0 ∙ w.3)
quiet_renamed n q t C (inr w) = inr (w.0, w.1, w.2, w.3, w.4, free_renamed n q t w.0 w.5, free_renamed n q t w.1 w.6)

level_past : (e : Entry) (t : Trail) (n x : ℕ) → Distinct n (e ∷ t) → on t x ≡ true → level_of (e ∷ t) x ≡ level_of t x
unfolding level_of
level_past e t n x d h = rw (ne_eqb e.literal x (λ z. both_ways (on t x) (subst (λ (y : ℕ). on t y ≡ false) z d.0.not_set) h))

cut_level_of : (n i : ℕ) (t : Trail) (x : ℕ) → Distinct n t → on (cut i t) x ≡ true → level_of (cut i t) x ≡ level_of t x
unfolding cut
cut_level_of n i [] x d h = refl
cut_level_of n i (e ∷ t) x d h =
    ⊎_elim (λ (k : leb e.level i ≡ true). rw k)
    (λ (k : leb e.level i ≡ false).
    let g : on (cut i t) x ≡ true = rw k at h in
    rw k (cut_level_of n i t x d.1 g ∙ sym (level_past e t n x d (cut_on i t x g))))
    (cases_Bool (leb e.level i))

-- a conflict set found, and an improvement, leave the trail as it was; a forced literal is no decision
module _ {K : Kind} (m : Sound) (s : State K) (h : Patient m s) where
  pub patient_conflicted : (D : Literals) → Patient m (conflicted s D)
  unfolding conflicted clauses in_force
  patient_conflicted D = h

  pub patient_improved : Patient m (improved m s)
  unfolding improved clauses in_force
  patient_improved = h

  pub patient_forced : (l k i : ℕ) → Patient m (pushed s l k (forced i))
  unfolding pushed clauses in_force
  patient_forced l k i = (tt, h)

  pub patient_decided : (l k : ℕ) → ((j : ℕ) → j < length (clauses m s) → Quiet m.options s.trail (clause (clauses m s) j)) → Patient m (pushed s l k decided)
  unfolding pushed clauses in_force
  patient_decided l k w = (w, h)

-- The set learned has two unset literals under the trail before each decision that is left: its literal L, and one whose
-- complement came at level i, the last that is left.
module _ (n i : ℕ) (D : Literals) (L x : ℕ) (ne : x ≡ L → ⊥) (dx : D x ≡ true) (dL : D L ≡ true) (rx : x < 2 * n) (rL : L < 2 * n) where
  on_tail : (e : Entry) (t : Trail) (y : ℕ) → on (e ∷ t) y ≡ false → on t y ≡ false
  unfolding on
  on_tail e t y h = ⊎_elim (λ (k : on t y ≡ true). absurd (both_ways (eqb e.literal y || on t y) h (or_right (eqb e.literal y) (on t y) k))) (λ k. k) (cases_Bool (on t y))

  on_cons : (e : Entry) (t : Trail) (y : ℕ) → on t y ≡ true → on (e ∷ t) y ≡ true
  unfolding on
  on_cons e t y h = or_right (eqb e.literal y) (on t y) h

  here : (r : Reason) (t : Trail) → Levelled t → opened r (level t) ≤ i → (on t (complement x) ≡ true → level_of t (complement x) ≡ i) → on t x ≡ false → on t L ≡ false → on t (complement L) ≡ false
      → AtDecision r (Quiet n t D)
  unfolding opened
  here (forced j) t v l h a b c = tt
  here decided t v l h a b c =
      let off : on t (complement x) ≡ false =
      ⊎_elim (λ (k : on t (complement x) ≡ true). absurd (omega (arith, h k, level_of_le t (complement x) v))) (λ k. k) (cases_Bool (on t (complement x))) in
      inr (x, L, ne, dx, dL, record { in_range = rx; not_set = a; not_false = off }, record { in_range = rL; not_set = b; not_false = c })

  learned_quiet : (t : Trail) → Distinct n t → Levelled t → level t ≤ i → (on t (complement x) ≡ true → level_of t (complement x) ≡ i) → on t x ≡ false → on t L ≡ false → on t (complement L) ≡ false
      → Before (λ u. Quiet n u D) t
  unfolding level
  learned_quiet [] d v l h a b c = tt
  learned_quiet (e ∷ t) d v l h a b c =
      let h2 : on t (complement x) ≡ true → level_of t (complement x) ≡ i = λ k. sym (level_past e t n (complement x) d k) ∙ h (on_cons e t (complement x) k) in
      let a2 = on_tail e t x a in
      let b2 = on_tail e t L b in
      let c2 = on_tail e t (complement L) c in
      (here e.reason t v.1 l h2 a2 b2 c2, learned_quiet t d.1 v.1 (omega (arith, opened_up e.reason (level t))) h2 a2 b2 c2)

before_none : (P : Trail → Type 0) (t : Trail) → level t ≤ 0 → Before P t
unfolding level opened
before_none P [] l = tt
before_none P (e ∷ t) l = (flat e.reason (level t) (P t) l, before_none P t (omega (arith, opened_up e.reason (level t))))
  where
    flat : (r : Reason) (k : ℕ) (Q : Type 0) → opened r k ≤ 0 → AtDecision r Q
    flat decided k Q h = absurd (omega arith)
    flat (forced j) k Q h = tt

-- what holds of every clause and of the set learned holds of every clause after
learned_clauses : {K : Kind} (P : Literals → Type 0) (m : Sound) (s : State K) (D : Literals) (L i : ℕ) → ((k : ℕ) → k < length (clauses m s) → P (clause (clauses m s) k)) → P D
    → (j : ℕ) → j < length (clauses m (backtracked m s D L i)) → P (clause (clauses m (backtracked m s D L i)) j)
unfolding backtracked in_force
learned_clauses P m s D L i h d j l =
    let s2 = backtracked m s D L i in
    let r = length (in_force m s) in
    let p = leaving r (cut i s.trail) s.learned in
    ⊎_elim
    (λ (k : j < length (in_force m s)). subst P (clause_rule m s j k ∙ sym (clause_rule m s2 j k)) (h j (omega (arith, length-clauses m s))))
    (λ (k : length (in_force m s) ≤ j).
    subst P (sym (clause_row m s2 j k))
    (learned_implied P p s.learned D (λ q z. subst P (row q) (h (r + q) (omega (arith, length-clauses m s)))) d (j - r) (omega (arith, length-clauses m s2))))
    (cases_lt j (length (in_force m s)))
  where
    row : (q : ℕ) → clause (clauses m s) (length (in_force m s) + q) ≡ get_or s.learned q (λ _. false)
    row q =
        let e : length (in_force m s) + q - length (in_force m s) ≡ q = omega arith in
        clause_row m s (length (in_force m s) + q) (omega arith) ∙ ap (λ (k : ℕ). get_or s.learned k (λ _. false)) e

module _ (K : Kind) (m : Sound) (s : State K) (inv : Inv K m s) where
  -- the set of Backtrack is quiet before each decision that is left
  new_quiet : (D : Literals) (L i : ℕ) → s.conflict ≡ some D → Asserts m.options s.trail D L i → Before (λ u. Quiet m.options u D) (cut i s.trail)
  new_quiet D L i c a =
      let n = m.options in
      let t = cut i s.trail in
      let free = free_cut K m s inv D L i c a in
      ⊎_elim (λ (z : i ≡ 0). before_none (λ u. Quiet n u D) t (omega (arith, cut_level i s.trail inv.levelled)))
      (λ w.
      let x = w.0 in
      let off = inv.conflict_false D c x w.1 w.2 in
      let not_on : on t x ≡ false =
      ⊎_elim
      (λ (k : on t x ≡ true).
      absurd (both_ways (on s.trail x) (subst (λ (z : ℕ). on s.trail z ≡ false) (complement_twice x) (on_one n s.trail (complement x) inv.distinct off)) (cut_on i s.trail x k)))
      (λ k. k)
      (cases_Bool (on t x)) in
      learned_quiet n i D L x w.3 w.2 a.in_set w.1 a.in_range t (cut_distinct n i s.trail inv.distinct) (cut_levelled i s.trail inv.levelled) (cut_level i s.trail inv.levelled)
      (λ k. cut_level_of n i s.trail (complement x) inv.distinct k ∙ w.4) not_on free.not_set free.not_false)
      a.reached

  pub patient_backtracked : (D : Literals) (L i : ℕ) → s.conflict ≡ some D → Asserts m.options s.trail D L i → Patient m s → Patient m (backtracked m s D L i)
  unfolding backtracked
  patient_backtracked D L i c a h =
      let n = m.options in
      let r = length (in_force m s) in
      let q = r + leaving r (cut i s.trail) s.learned in
      let s2 = backtracked m s D L i in (
        tt,
        before_renamed (λ u. (j : ℕ) → j < length (clauses m s) → Quiet n u (clause (clauses m s) j)) (λ u. Quiet n u D) (λ u. (j : ℕ) → j < length (clauses m s2) → Quiet n u (clause (clauses m s2) j)) q
            (cut i s.trail) (before_cut (λ u. (j : ℕ) → j < length (clauses m s) → Quiet n u (clause (clauses m s) j)) i s.trail h) (new_quiet D L i c a)
            (λ u p d j l. quiet_renamed n q u (clause (clauses m s2) j) (learned_clauses (λ C. Quiet n u C) m s D L i p d j l)),
      )

  pub patient_popped : (D : Literals) (e : Entry) (t : Trail) → s.trail ≡ e ∷ t → Patient m s → Patient m (popped s t D)
  unfolding popped clauses in_force
  patient_popped D e t q h = (subst (Before (λ u. (j : ℕ) → j < length (clauses m s) → Quiet m.options u (clause (clauses m s) j))) q h).1

  -- No clause has the set that Backtrack learns.
  pub never_twice : Patient m s → (D : Literals) (L i : ℕ) → s.conflict ≡ some D → Asserts m.options s.trail D L i → (j : ℕ) → j < length (clauses m s)
      → ((x : ℕ) → x < 2 * m.options → clause (clauses m s) j x ≡ D x) → ⊥
  never_twice h D L i c a j l same = clash (before_at (λ u. (j : ℕ) → j < length (clauses m s) → Quiet m.options u (clause (clauses m s) j)) i s.trail inv.levelled (asserts_lower m.options s.trail D L i inv.levelled a) h j l)
    where
      -- a literal of the set that is unset up to level i is L
      is_L : (x : ℕ) → Free m.options (cut i s.trail) x → clause (clauses m s) j x ≡ true → x ≡ L
      is_L x f k =
          let d : D x ≡ true = sym (same x f.in_range) ∙ k in
          ⊎_elim (λ (e : x ≡ L). e)
          (λ (e : x ≡ L → ⊥).
          absurd
          (both_ways (on (cut i s.trail) (complement x)) f.not_false (cut_keeps i s.trail (complement x) (inv.conflict_false D c x f.in_range d) (a.others x f.in_range d e))))
          (cases_eq x L)

      clash : Quiet m.options (cut i s.trail) (clause (clauses m s) j) → ⊥
      clash (inl w) =
          let d : D w.0 ≡ true = sym (same w.0 w.1) ∙ w.2 in
          both_ways (on s.trail (complement w.0)) (on_one m.options s.trail w.0 inv.distinct (cut_on i s.trail w.0 w.3)) (inv.conflict_false D c w.0 w.1 d)
      clash (inr w) = w.2 (is_L w.0 w.5 w.3 ∙ sym (is_L w.1 w.6 w.4))
