-- What each of the eight rules makes of a state keeps the invariant, from the invariant, the laws of the kind and the limits of the pile.
use Rattle.std.proofs.Common.{◌≡◌, ℕ, suc, ◌+◌, ◌*◌, ◌<◌, ◌≤◌, true, false, not, ◌&&◌, eqb, List, [], ◌∷◌, ◌++◌, map, length, get_or, sym, refl, ap, ◌∙◌, subst, ⊎_elim, append_assoc, arith, length-append, pow_mono}
use mathlib.Core.Option.{Option, none, some}
use lib.ListN.{get_or-append, length-map}
use Rattle.std.proofs.lemmas.Bool.{both_ways, cases_Bool, or_cases, and_parts, not-true, cases_lt, eqb-true, eqb-false}
use Rattle.cases.specs.Meanings.{Sound, sound}
use Rattle.cases.specs.Literals.{Literals, complement, members}
use Rattle.cases.specs.Choices.{keeps_all, sets}
use Rattle.cases.specs.Limits.{Limited}
use Rattle.charges.specs.Charges.{charge}
use Rattle.charges.specs.Kinds.{Kind, Laws}
use Rattle.charges.proofs.Sets.{charge_same}
use Rattle.charges.proofs.Sums.{reflexive}
use Rattle.calculus.specs.Scans.{remove, any}
use Rattle.calculus.specs.Trails.{Trail, forced, Entry, on, cut, unset, Reason, opened, level, Levelled}
use Rattle.calculus.specs.States.{up, most, clause, State, in_force, clauses, Best}
use Rattle.calculus.specs.Learned.{is_reason, renamed, leaving}
use Rattle.calculus.specs.Changes.{resolved, conflicted, choice_of, improved, best_of, pushed, popped, backtracked, complements}
use Rattle.calculus.specs.Calculus.{Reasoned, FalseBut, Because, FalseUnder, Asserts, Free}
use Rattle.calculus.specs.Steps.{others, best_not_above}
use Rattle.calculus.specs.Examples.{rows}
use Rattle.calculus.proofs.Scans.{get_d_remove_below, get_d_remove_above, length-remove, remove_past, remove-append, some_same, none_some, bit_le}
use Rattle.calculus.proofs.Literals.{complement_swap, complement_twice}
use Rattle.calculus.proofs.Choices.{sets_choice, length-choice}
use Rattle.calculus.proofs.Trails.{spent, spent_le, room_pos, on_one, cut_on, cut_below, asserts_lower, short, Distinct, room, spent_room, cut_distinct, cut_level_exact, cut_levelled, cut_keeps, cut_gain}
use Rattle.calculus.proofs.Reasons.{more_reasoned, reasoned_renamed, on_renamed, cut_reasoned, leaves, free_renamed, distinct_renamed, level_renamed, levelled_renamed, length-renamed, spent_renamed}
use Rattle.calculus.proofs.Invariant.{Inv, Implied, Better, full_complement, better_old, full_set, round, best_not_below, free_open, length-clauses, clause_implied, trail_implied, kept_resolved}

-- a count goes up by one at most, and by one where there is room
pub up_le : (x : ℕ) → up x ≤ suc x
unfolding up
up_le x = omega arith

pub up_exact : (x : ℕ) → x < most → up x ≡ suc x
unfolding up
up_exact x h = omega arith

-- no trail accounts for as many conflicts as the counts can hold
pub few_enough : (n : ℕ) (t : Trail) (x : ℕ) → n ≤ 56 → length t ≤ n → x ≤ spent n t → x < most
few_enough n t x h l k = omega (arith, spent_le n t l, room_pos n t, pow_mono {i = n} {j = 56} h)

-- the rows left, and the one learned
pub get_or-last : {A : Type 0} (xs : List A) (y d : A) → get_or (xs ++ (y ∷ [])) (length xs) d ≡ y
get_or-last [] y d = refl
get_or-last (x ∷ xs) y d = get_or-last xs y d

left_implied : (P : Literals → Type 0) (p : ℕ) (rows : List Literals) → ((j : ℕ) → j < length rows → P (get_or rows j (λ _. false))) → (j : ℕ) → j < length (remove p rows) → P (get_or (remove p rows) j (λ _. false))
left_implied P p rows h j l =
    ⊎_elim
    (λ (k : j < p). subst P (sym (get_d_remove_below p j rows (λ _. false) k)) (h j (size k)))
    (λ (k : p ≤ j). subst P (sym (get_d_remove_above p j rows (λ _. false) k)) (h (suc j) (more k)))
    (cases_lt j p)
  where
    size : j < p → j < length rows
    size k = ⊎_elim (λ (q : p < length rows). omega (arith, length-remove p rows q)) (λ (q : length rows ≤ p). rw (remove_past p rows q) at l) (cases_lt p (length rows))

    more : p ≤ j → suc j < length rows
    more k = ⊎_elim (λ (q : p < length rows). omega (arith, length-remove p rows q)) (λ (q : length rows ≤ p). let z : j < length rows = rw (remove_past p rows q) at l in absurd (omega arith)) (cases_lt p (length rows))

pub learned_implied : (P : Literals → Type 0) (p : ℕ) (rows : List Literals) (D : Literals) → ((j : ℕ) → j < length rows → P (get_or rows j (λ _. false))) → P D
    → (j : ℕ) → j < length (remove p rows ++ (D ∷ [])) → P (get_or (remove p rows ++ (D ∷ [])) j (λ _. false))
learned_implied P p rows D h k j l =
    ⊎_elim
    (λ (q : j < length (remove p rows)). subst P (sym (get_or-append (remove p rows) (D ∷ []) (λ _. false) j q)) (left_implied P p rows h j q))
    (λ (q : length (remove p rows) ≤ j).
    let e : length (remove p rows) ≡ j = omega (arith, length-append (remove p rows) (D ∷ [])) in
    subst (λ (i : ℕ). P (get_or (remove p rows ++ (D ∷ [])) i (λ _. false))) e (subst P (sym (get_or-last (remove p rows) D (λ _. false))) k))
    (cases_lt j (length (remove p rows)))

-- the set learned, D, is the last clause, and the reason of L; the older reasons keep theirs
learned_reasoned : (n r : ℕ) (fs rows : List Literals) (p : ℕ) (t : Trail) (D : Literals) (L i : ℕ) → length fs ≡ r → is_reason t (r + p) ≡ false → Reasoned n (fs ++ rows) t → D L ≡ true
    → FalseBut n t D (λ x. x ≡ L → ⊥)
    → Reasoned n (fs ++ (remove p rows ++ (D ∷ []))) (record { literal = L; level = i; reason = forced (r + length (remove p rows)) } ∷ renamed (r + p) t)
unfolding clause
learned_reasoned n r fs rows p t D L i e free old has others =
    let all = fs ++ remove p rows in
    let q : remove (r + p) (fs ++ rows) ≡ all = subst (λ (k : ℕ). remove (k + p) (fs ++ rows) ≡ all) e (remove-append fs rows p) in
    let size : length all ≡ r + length (remove p rows) = length-append fs (remove p rows) ∙ ap (λ (k : ℕ). k + length (remove p rows)) e in
    let last : clause (all ++ (D ∷ [])) (r + length (remove p rows)) ≡ D = subst (λ (k : ℕ). clause (all ++ (D ∷ [])) k ≡ D) size (get_or-last all D (λ _. false)) in
    let t1 = renamed (r + p) t in
    let rest : Reasoned n (all ++ (D ∷ [])) t1 = more_reasoned n all D t1 (subst (λ (cs : List Literals). Reasoned n cs t1) q (reasoned_renamed n (r + p) (fs ++ rows) t free old)) in
    let why : Because n (all ++ (D ∷ [])) t1 L (forced (r + length (remove p rows))) = (
      omega (arith, length-append all (D ∷ []), size),
      subst (λ (C : Literals). C L ≡ true) (sym last) has,
      subst (λ (C : Literals). FalseBut n t1 C (λ x. x ≡ L → ⊥)) (sym last) (λ x l k o. on_renamed (r + p) t (complement x) ∙ others x l k o),
    ) in
    subst (λ (cs : List Literals). Reasoned n cs (record { literal = L; level = i; reason = forced (r + length (remove p rows)) } ∷ t1)) (append_assoc fs (remove p rows) (D ∷ [])) (why, rest)

-- when the last literal goes, only its complement ceases to be false
pub still_false : (n : ℕ) (e : Entry) (t : Trail) (D : Literals) → FalseUnder n (e ∷ t) D → FalseBut n t D (λ x. x ≡ complement e.literal → ⊥)
unfolding on
still_false n e t D h x l k o =
    ⊎_elim (λ q. absurd (o (complement_swap e.literal x (sym (eqb-true e.literal (complement x) q))))) (λ q. q) (or_cases (eqb e.literal (complement x)) (on t (complement x)) (h x l k))

resolved_false : (n : ℕ) (e : Entry) (t : Trail) (D C : Literals) → FalseUnder n (e ∷ t) D → FalseBut n t C (λ x. x ≡ e.literal → ⊥) → FalseUnder n t (resolved D e.literal C)
unfolding resolved
resolved_false n e t D C h g x l k =
    ⊎_elim
    (λ q.
    let w = and_parts (D x) (not (eqb x (complement e.literal))) q in
    still_false n e t D h x l w.0 (eqb-false x (complement e.literal) (not-true (eqb x (complement e.literal)) w.1)))
    (λ q.
    let w = and_parts (C x) (not (eqb x e.literal)) q in
    g x l w.0 (eqb-false x e.literal (not-true (eqb x e.literal) w.1)))
    (or_cases (D x && not (eqb x (complement e.literal))) (C x && not (eqb x e.literal)) k)

module _ (K : Kind) (m : Sound) (s : State K) (inv : Inv K m s) where
  -- the literal L is free once the levels above i have left
  pub free_cut : (D : Literals) (L i : ℕ) → s.conflict ≡ some D → Asserts m.options s.trail D L i → Free m.options (cut i s.trail) L
  free_cut D L i c a =
      let off : on s.trail (complement L) ≡ true = inv.conflict_false D c L a.in_range a.in_set in
      record {
        in_range = a.in_range;
        not_set =
            ⊎_elim
            (λ (h : on (cut i s.trail) L ≡ true).
            absurd
            (both_ways (on s.trail L) (subst (λ (z : ℕ). on s.trail z ≡ false) (complement_twice L) (on_one m.options s.trail (complement L) inv.distinct off)) (cut_on i s.trail L h)))
            (λ h. h)
            (cases_Bool (on (cut i s.trail) L));
        not_false =
            ⊎_elim
            (λ (h : on (cut i s.trail) (complement L) ≡ true).
            absurd (omega (arith, cut_below m.options i s.trail (complement L) inv.distinct inv.levelled h, a.at_top, asserts_lower m.options s.trail D L i inv.levelled a)))
            (λ h. h)
            (cases_Bool (on (cut i s.trail) (complement L)));
      }

module _ (K : Kind) (laws : Laws K) (m : Sound) (limited : Limited (sound m)) (s : State K) (inv : Inv K m s) where
  -- ConflSat and ConflOpt
  keep_conflicted : (D : Literals) → s.conflict ≡ none → Implied K m (in_force m s) s.best D → FalseUnder m.options s.trail D → Inv K m (conflicted s D)
  unfolding conflicted clauses in_force
  keep_conflicted D e imp false-D =
      record {
        distinct = inv.distinct;
        levelled = inv.levelled;
        reasoned = inv.reasoned;
        conditions_fit = inv.conditions_fit;
        best_admitted = inv.best_admitted;
        best_charged = inv.best_charged;
        rows_implied = inv.rows_implied;
        few_learned = inv.few_learned;
        conflict_implied = λ E q. subst (Implied K m (in_force m s) s.best) (some_same q) imp;
        conflict_false = λ E q. subst (FalseUnder m.options s.trail) (some_same q) false-D;
        idle = λ q. absurd (none_some (sym q));
        busy =
            λ E q.
            let i = inv.idle e in
            let r = room_pos m.options s.trail in
            let t = short m.options s.trail inv.distinct in
            let j = bit_le (not (any m.options (unset s.trail)) && best_not_above K m s.best (on s.trail)) in
            let exact : up s.conflicts ≡ suc s.conflicts = up_exact s.conflicts (few_enough m.options s.trail s.conflicts limited.few_options t i.0) in
            rw exact (omega (arith, i.0), omega (arith, i.1, up_le s.steps));
      }

  -- Improve
  pub keep_improved : s.conflict ≡ none → ((l : ℕ) → Free m.options s.trail l → ⊥) → keeps_all (sets (choice_of m.options (on s.trail))) (in_force m s) ≡ true
      → Better K m s.best (on s.trail) → Inv K m (improved m s)
  unfolding improved best_of clauses in_force best_not_above up
  keep_improved e full kept better =
      let n = m.options in
      let t = s.trail in
      let new : Best K = best_of K m t in
      let same : charge K m (sets (choice_of n (on t))) ≡ charge K m (on t) = charge_same K m (sets (choice_of n (on t))) (on t) (sets_choice n (on t) (full_complement n t inv.distinct full)) in
      let low : K.not_above (charge K m (on t)) (charge K m (on t)) ≡ true = reflexive K laws (charge K m (on t)) in
      record {
        distinct = inv.distinct;
        levelled = inv.levelled;
        reasoned = inv.reasoned;
        conditions_fit = inv.conditions_fit;
        best_admitted = λ b q. subst (λ (z : Best K). (length z.choice ≡ n) × (keeps_all (sets z.choice) (in_force m s) ≡ true)) (some_same q) (length-choice n (on t), kept);
        best_charged = λ b q. subst (λ (z : Best K). z.charge ≡ charge K m (sets z.choice)) (some_same q) (sym same);
        rows_implied = λ j l c w k b. inv.rows_implied j l c w k (better_old K laws m limited s.best new (on t) (sets c) refl better b);
        few_learned = inv.few_learned;
        conflict_implied = λ D q. absurd (none_some q);
        conflict_false = λ D q. absurd (none_some q);
        idle =
            λ _.
            let i = inv.idle e in
            let z = full_set n t full in
            let old : s.steps ≤ s.conflicts * round m + length t + 0 = rw (z, best_not_below K m s.best (on t) better) at i.1 in
            (i.0, rw (z, low) (omega arith));
        busy = λ D q. absurd (none_some q);
      }

  -- Propagate and Decide
  pub keep_pushed : (l k : ℕ) (r : Reason) → s.conflict ≡ none → Free m.options s.trail l → k ≡ opened r (level s.trail)
      → Because m.options (clauses m s) s.trail l r → Inv K m (pushed s l k r)
  unfolding pushed clauses in_force up level
  keep_pushed l k r e free at why =
      record {
        distinct = (free, inv.distinct);
        levelled = (at, inv.levelled);
        reasoned = (why, inv.reasoned);
        conditions_fit = inv.conditions_fit;
        best_admitted = inv.best_admitted;
        best_charged = inv.best_charged;
        rows_implied = inv.rows_implied;
        few_learned = inv.few_learned;
        conflict_implied = λ D q. absurd (none_some q);
        conflict_false = λ D q. absurd (none_some q);
        idle =
            λ _.
            let i = inv.idle e in
            let old : s.steps ≤ s.conflicts * round m + length s.trail + 0 = rw (free_open m.options s.trail l free) at i.1 in
            (omega (arith, i.0), omega arith);
        busy = λ D q. absurd (none_some q);
      }

  -- Skip and Resolve
  keep_popped : (D E : Literals) (e : Entry) (t : Trail) → s.conflict ≡ some D → s.trail ≡ e ∷ t → Implied K m (in_force m s) s.best E → FalseUnder m.options t E → Inv K m (popped s t E)
  unfolding popped clauses in_force up
  keep_popped D E e t c q imp false-E =
      let n = m.options in
      let d : Distinct n (e ∷ t) = subst (Distinct n) q inv.distinct in
      let v : Levelled (e ∷ t) = subst (λ (z : Trail). Levelled z) q inv.levelled in
      let r : Reasoned n (clauses m s) (e ∷ t) = subst (Reasoned n (clauses m s)) q inv.reasoned in
      record {
        distinct = d.1;
        levelled = v.1;
        reasoned = r.1;
        conditions_fit = inv.conditions_fit;
        best_admitted = inv.best_admitted;
        best_charged = inv.best_charged;
        rows_implied = inv.rows_implied;
        few_learned = inv.few_learned;
        conflict_implied = λ F z. subst (Implied K m (in_force m s) s.best) (some_same z) imp;
        conflict_false = λ F z. subst (FalseUnder n t) (some_same z) false-E;
        idle = λ z. absurd (none_some (sym z));
        busy =
            λ F z.
            let b : (s.conflicts ≤ spent n (e ∷ t) + room n (e ∷ t)) × (s.steps + 1 + length (e ∷ t) ≤ s.conflicts * round m) =
            subst (λ (w : Trail). (s.conflicts ≤ spent n w + room n w) × (s.steps + 1 + length w ≤ s.conflicts * round m)) q (inv.busy D c) in
            (omega (arith, b.0, spent_room n e t (short n (e ∷ t) d)), omega (arith, b.1));
      }

  -- Backtrack: i is below the trail's level, and of the literals of D only L has a level above i.
  pub keep_backtracked : (D : Literals) (L i : ℕ) → s.conflict ≡ some D → Asserts m.options s.trail D L i → Inv K m (backtracked m s D L i)
  unfolding backtracked clauses in_force up level opened
  keep_backtracked D L i c a =
      let n = m.options in
      let r = length (in_force m s) in
      let t = cut i s.trail in
      let p = leaving r t s.learned in
      let left = remove p s.learned in
      let d = cut_distinct n i s.trail inv.distinct in
      let lower = asserts_lower n s.trail D L i inv.levelled a in
      let old = cut_reasoned n i (clauses m s) s.trail inv.reasoned in
      let goes = leaves n r (clauses m s) t s.learned (length-clauses m s) inv.few_learned (let h = short n t d in omega (arith, limited.few_options)) old in
      record {
        distinct = (free_renamed n (r + p) t L (free_cut K m s inv D L i c a), distinct_renamed n (r + p) t d);
        levelled = (
          sym (level_renamed (r + p) t ∙ cut_level_exact i s.trail inv.levelled (omega (arith, lower))),
          levelled_renamed (r + p) t (cut_levelled i s.trail inv.levelled),
        );
        reasoned =
            learned_reasoned n r (map members (in_force m s)) s.learned p t D L i (length-map (in_force m s) members) goes.not_named old a.in_set
            (λ x l k o. cut_keeps i s.trail (complement x) (inv.conflict_false D c x l k) (a.others x l k o));
        conditions_fit = inv.conditions_fit;
        best_admitted = inv.best_admitted;
        best_charged = inv.best_charged;
        rows_implied = λ j l. learned_implied (Implied K m (in_force m s) s.best) p s.learned D inv.rows_implied (inv.conflict_implied D c) j l;
        few_learned = omega (arith, length-append left (D ∷ []), goes.has_room);
        conflict_implied = λ F z. absurd (none_some z);
        conflict_false = λ F z. absurd (none_some z);
        idle =
            λ _.
            let b = inv.busy D c in
            let g = cut_gain n i s.trail inv.levelled (short n s.trail inv.distinct) lower in
            (rw (length-renamed (r + p) t, spent_renamed n (r + p) t) (omega (arith, b.0)), omega (arith, b.1));
        busy = λ F z. absurd (none_some z);
      }

  false_top : (D : Literals) (e : Entry) (t : Trail) → s.conflict ≡ some D → s.trail ≡ e ∷ t → FalseUnder m.options (e ∷ t) D
  false_top D e t c q = subst (λ (z : Trail). FalseUnder m.options z D) q (inv.conflict_false D c)

  -- ConflSat
  pub keep_confl_sat : (i : ℕ) → s.conflict ≡ none → i < length (clauses m s) → FalseUnder m.options s.trail (clause (clauses m s) i)
      → Inv K m (conflicted s (clause (clauses m s) i))
  keep_confl_sat i e l f = keep_conflicted (clause (clauses m s) i) e (clause_implied K m limited s inv i l) f

  -- ConflOpt
  pub keep_confl_opt : (b : Best K) → s.conflict ≡ none → s.best ≡ some b → K.not_above b.charge (charge K m (on s.trail)) ≡ true
      → Inv K m (conflicted s (complements s.trail))
  unfolding complements
  keep_confl_opt b e q h =
      keep_conflicted (complements s.trail) e
      (subst (λ (z : Option (Best K)). Implied K m (in_force m s) z (complements s.trail)) (sym q) (trail_implied K laws m limited (in_force m s) s.trail b h))
      (λ x _ k. k)

  pub keep_skip : (D : Literals) (e : Entry) (t : Trail) → s.conflict ≡ some D → s.trail ≡ e ∷ t → D (complement e.literal) ≡ false → Inv K m (popped s t D)
  keep_skip D e t c q h =
      keep_popped D D e t c q (inv.conflict_implied D c)
      (λ x l k. still_false m.options e t D (false_top D e t c q) x l k (λ z. both_ways (D x) (subst (λ (y : ℕ). D y ≡ false) (sym z) h) k))

  pub keep_resolve : (D : Literals) (e : Entry) (t : Trail) (i : ℕ) → s.conflict ≡ some D → s.trail ≡ e ∷ t → e.reason ≡ forced i
      → Inv K m (popped s t (resolved D e.literal (clause (clauses m s) i)))
  keep_resolve D e t i c q w =
      let n = m.options in
      let why : Because n (clauses m s) t e.literal (forced i) = subst (Because n (clauses m s) t e.literal) w (subst (Reasoned n (clauses m s)) q inv.reasoned).0 in
      keep_popped D (resolved D e.literal (clause (clauses m s) i)) e t c q
      (λ d l k b. kept_resolved n d D (clause (clauses m s) i) e.literal (inv.conflict_implied D c d l k b) (clause_implied K m limited s inv i why.0 d l k b))
      (resolved_false n e t D (clause (clauses m s) i) (false_top D e t c q) why.2)
