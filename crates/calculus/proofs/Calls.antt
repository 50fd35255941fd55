-- The calls keep the invariant, and the book tells the conditions and, while the search is not closed, the steps; from
-- what a step keeps.
use Rattle.std.proofs.Common.{◌≡◌, ℕ, zero, suc, ◌+◌, ◌<◌, ◌≤◌, Bool, true, false, cond, not, ltb, leb, List, [], ◌∷◌, ◌++◌, length, get_or, sym, refl, ap, ◌∙◌, subst, inl, inr, ⊎_elim, append_assoc, not-suc-le-zero, arith}
use mathlib.Core.Option.{Option, none, some}
use Rattle.std.proofs.lemmas.Bool.{both_ways, cases_Bool, and_parts, and_from, not-false}
use Rattle.cases.specs.Meanings.{Sound, sound}
use Rattle.cases.specs.Summaries.{charged}
use Rattle.cases.specs.declared.refusal.Refusal.{Refusal}
use Rattle.cases.specs.declared.refusal.Refusal.TheVariants.{TooLong, NoSuchLiteral, Full}
use Rattle.cases.specs.Literals.{Literals}
use Rattle.cases.specs.Choices.{keeps_all, sets, keeps}
use Rattle.cases.specs.Limits.{Limited}
use Rattle.charges.specs.Charges.{charge}
use Rattle.charges.specs.Kinds.{Kind, Laws}
use Rattle.calculus.specs.Scans.{all_but_last}
use Rattle.calculus.specs.States.{State, restarted, Best, in_force, fresh}
use Rattle.calculus.specs.Learned.{most_rows}
use Rattle.calculus.specs.Priority.{Chain, conflicts_of, stays, goes, is_conflict}
use Rattle.calculus.specs.Steps.{closed, step}
use Rattle.calculus.specs.Runs.{run_steps, steps_made}
use Rattle.calculus.specs.Checks.{all_exist, exist, add_check, longest_condition, most_conditions, if_accepted, withdraw_check}
use Rattle.calculus.specs.Calls.{breaks, added, withdrawn, Call, call, add, withdraw, run, read, tally}
use Rattle.calculus.specs.Books.{Book, note, new_book}
use Rattle.calculus.specs.Promises.{RunOf, SinceZeroing}
use Rattle.calculus.specs.Examples.{rows}
use Rattle.calculus.proofs.Scans.{none_some, some_same}
use Rattle.calculus.proofs.Choices.{keeps-append, keeps_left, exist-append, keeps_right}
use Rattle.calculus.proofs.Invariant.{Inv, Implied}
use Rattle.calculus.proofs.Learning.{Patient}
use Rattle.calculus.proofs.Progress.{stepped}
use Rattle.calculus.proofs.Counts.{move_counts, room_left, conflicts_left}

-- a run of a closed search changes nothing, whatever its budget
pub run_closed : (K : Kind) (m : Sound) (b : ℕ) (s : State K) → closed m s ≡ true → run_steps K m b s ≡ s
unfolding run_steps
run_closed K m zero s h = refl
run_closed K m (suc b) s h = rw (h, run_steps)

pub run_open : (K : Kind) (m : Sound) (b : ℕ) (s : State K) → closed m s ≡ false → run_steps K m (suc b) s ≡ run_steps K m b (step K m s)
unfolding run_steps
run_open K m b s h = rw (h, run_steps)

pub made_closed : (K : Kind) (m : Sound) (b : ℕ) (s : State K) → closed m s ≡ true → steps_made K m b s ≡ 0
unfolding steps_made
made_closed K m zero s h = refl
made_closed K m (suc b) s h = rw (h, steps_made)

pub made_open : (K : Kind) (m : Sound) (b : ℕ) (s : State K) → closed m s ≡ false → steps_made K m (suc b) s ≡ suc (steps_made K m b (step K m s))
unfolding steps_made
made_open K m b s h = rw (h, steps_made)

-- chains one after another
append_chains : {K : Kind} {m : Sound} {s t u : State K} {j k : ℕ} (a : Chain K m s j t) (b : Chain K m t k u)
    → (c : Chain K m s (j + k) u) × (conflicts_of c ≡ conflicts_of a + conflicts_of b)
unfolding conflicts_of
append_chains {K} {m} {s} {t} {u} {j} {k} stays b =
    let e : k ≡ 0 + k = omega arith in
    subst (λ (n : ℕ). (c : Chain K m s n u) × (conflicts_of c ≡ 0 + conflicts_of b)) e (b, omega arith)
append_chains {K} {m} {s} {t} {u} {j} {k} (goes {k = i} n a) b =
    let e : suc (i + k) ≡ suc i + k = omega arith in
    let ih = append_chains a b in
    subst (λ (n' : ℕ). (c : Chain K m s n' u) × (conflicts_of c ≡ is_conflict n.rule + conflicts_of a + conflicts_of b)) e (goes n ih.0, omega (arith, ih.1))

-- What a run leads to: the invariant and the conditions stand, and it is closed or has made its budget.
pub record Ran (K : Kind) (m : Sound) (s u : State K) (b : ℕ) : Type 0 where
  pub inv : Inv K m u
  pub patient : Patient m u
  pub run_of : RunOf K m s b u
  pub conditions : u.conditions ≡ s.conditions
  pub made : closed m u ≡ false → (closed m s ≡ false) × (u.steps ≡ s.steps + b)

-- the chain of steps since the last zeroing goes on with those of a run
pub since_ran : (K : Kind) (m : Sound) (s u : State K) (b : ℕ) → SinceZeroing K m s → Ran K m s u b → SinceZeroing K m u
since_ran K m s u b z r =
    let q = r.run_of in
    let all = append_chains z.chain q.chain in
    let conflicts : u.conflicts ≡ conflicts_of all.0 = omega (arith, q.counted_conflicts, z.counted_conflicts, all.1) in
    let moved = subst (λ (n : ℕ). (c : Chain K m (restarted s.conditions z.best z.learned) n u) × (u.conflicts ≡ conflicts_of c)) (sym q.counted) (all.0, conflicts) in
    let here = subst (λ (cs : List (List ℕ)). (c : Chain K m (restarted cs z.best z.learned) u.steps u) × (u.conflicts ≡ conflicts_of c)) (sym r.conditions) moved in
    record { best = z.best; learned = z.learned; chain = here.0; counted_conflicts = here.1 }

since_restarted : (K : Kind) (m : Sound) (cs : List (List ℕ)) (best : Option (Best K)) (rows : List Literals) → SinceZeroing K m (restarted cs best rows)
unfolding restarted conflicts_of
since_restarted K m cs best rows = record { best = best; learned = rows; chain = stays; counted_conflicts = refl }

module _ (K : Kind) (laws : Laws K) (m : Sound) (limited : Limited (sound m)) where
  pub run_leads : (b : ℕ) (s : State K) → Inv K m s → Patient m s → Ran K m s (run_steps K m b s) b
  unfolding run_steps steps_made conflicts_of
  run_leads zero s inv p =
      record { inv = inv; patient = p; run_of = record { made = 0; chain = stays; as_told = refl; within = omega arith; ends = inr refl; counted = omega arith; counted_conflicts = omega arith }; conditions = refl; made = λ h. (h, omega arith) }
  run_leads (suc b) s inv p =
      ⊎_elim
      (λ (h : closed m s ≡ true).
      rw (run_closed K m (suc b) s h)
      (record {
        inv = inv;
        patient = p;
        run_of = record { made = 0; chain = stays; as_told = sym (made_closed K m (suc b) s h); within = omega arith; ends = inl h; counted = omega arith; counted_conflicts = omega arith };
        conditions = refl;
        made = λ k. absurd (both_ways (closed m s) k h);
      }))
      (λ (h : closed m s ≡ false).
      let v = stepped K laws m limited s inv p h in
      let w = move_counts K m s (room_left K m limited s inv) (conflicts_left K m limited s inv) v.next.rule (step K m s) v.next.move in
      let ih = run_leads b (step K m s) v.inv v.patient in
      let q = ih.run_of in
      rw (run_open K m b s h)
      (record {
        inv = ih.inv;
        patient = ih.patient;
        run_of =
            record {
              made = suc q.made;
              chain = goes v.next q.chain;
              as_told = ap suc q.as_told ∙ sym (made_open K m b s h);
              within = omega (arith, q.within);
              ends = ⊎_elim (λ z. inl z) (λ z. inr (ap suc z)) q.ends;
              counted = omega (arith, q.counted, w.steps);
              counted_conflicts = omega (arith, q.counted_conflicts, w.conflicts);
            };
        conditions = ih.conditions ∙ w.conditions;
        made = λ k. (h, omega (arith, (ih.made k).1, w.steps));
      }))
      (cases_Bool (closed m s))

  restart_inv : (cs : List (List ℕ)) (best : Option (Best K)) (rows : List Literals) → all_exist m.options cs ≡ true
      → ((b : Best K) → best ≡ some b → (length b.choice ≡ m.options) × (keeps_all (sets b.choice) (m.rules ++ cs) ≡ true)) → ((b : Best K) → best ≡ some b → b.charge ≡ charge K m (sets b.choice))
      → ((j : ℕ) → j < length rows → Implied K m (m.rules ++ cs) best (get_or rows j (λ _. false))) → length rows ≤ most_rows → Inv K m (restarted cs best rows)
  unfolding restarted in_force
  restart_inv cs best rows fit admitted charged implied few =
      record {
        distinct = tt;
        levelled = tt;
        reasoned = tt;
        conditions_fit = fit;
        best_admitted = admitted;
        best_charged = charged;
        rows_implied = implied;
        few_learned = few;
        conflict_implied = λ D q. absurd (none_some q);
        conflict_false = λ D q. absurd (none_some q);
        idle = λ _. (omega arith, omega arith);
        busy = λ D q. absurd (none_some q);
      }

  pub fresh_inv : Inv K m fresh
  unfolding fresh restarted all_exist
  fresh_inv = restart_inv [] none [] refl (λ b q. absurd (none_some q)) (λ b q. absurd (none_some q)) (λ j l. absurd (not-suc-le-zero l)) (omega arith)

  -- add
  keeps_more : (c : List Bool) (cs : List (List ℕ)) (r : List ℕ) → keeps_all (sets c) (m.rules ++ cs) ≡ true → keeps (sets c) r ≡ true → keeps_all (sets c) (m.rules ++ (cs ++ (r ∷ []))) ≡ true
  unfolding keeps_all
  keeps_more c cs r h k = subst (λ (z : List (List ℕ)). keeps_all (sets c) z ≡ true) (append_assoc m.rules cs (r ∷ [])) (keeps-append (sets c) (m.rules ++ cs) (r ∷ []) h (and_from (keeps (sets c) r) true k refl))

  keeps_fewer : (c : List Bool) (cs : List (List ℕ)) (r : List ℕ) → keeps_all (sets c) (m.rules ++ (cs ++ (r ∷ []))) ≡ true → keeps_all (sets c) (m.rules ++ cs) ≡ true
  keeps_fewer c cs r h = keeps_left (sets c) (m.rules ++ cs) (r ∷ []) (subst (λ (z : List (List ℕ)). keeps_all (sets c) z ≡ true) (sym (append_assoc m.rules cs (r ∷ []))) h)

  fit_more : (cs : List (List ℕ)) (r : List ℕ) → all_exist m.options cs ≡ true → exist m.options r ≡ true → all_exist m.options (cs ++ (r ∷ [])) ≡ true
  unfolding all_exist
  fit_more cs r h k = exist-append m.options cs (r ∷ []) h (and_from (exist m.options r) true k refl)

  best_stays : (best : Option (Best K)) (r : List ℕ) → breaks best r ≡ false → (b : Best K) → best ≡ some b → keeps (sets b.choice) r ≡ true
  unfolding breaks
  best_stays none r h b q = absurd (none_some q)
  best_stays (some a) r h b q = subst (λ (z : Best K). keeps (sets z.choice) r ≡ true) (some_same q) (not-false (keeps (sets a.choice) r) h)

  add_inv : (s : State K) (r : List ℕ) (b : Bool) → breaks s.best r ≡ b → Inv K m s → exist m.options r ≡ true → Inv K m (added s r b)
  unfolding added in_force
  add_inv s r true e inv f =
      restart_inv (s.conditions ++ (r ∷ [])) none [] (fit_more s.conditions r inv.conditions_fit f) (λ b q. absurd (none_some q)) (λ b q. absurd (none_some q)) (λ j l. absurd (not-suc-le-zero l)) (omega arith)
  add_inv s r false e inv f =
      restart_inv (s.conditions ++ (r ∷ [])) s.best s.learned (fit_more s.conditions r inv.conditions_fit f)
      (λ b q. let w = inv.best_admitted b q in (w.0, keeps_more b.choice s.conditions r w.1 (best_stays s.best r e b q))) inv.best_charged
      (λ j l c w k b. inv.rows_implied j l c w (keeps_fewer c s.conditions r k) b) inv.few_learned

  -- withdraw
  keeps_but_last : (c : List Bool) (rs : List (List ℕ)) → keeps_all (sets c) rs ≡ true → keeps_all (sets c) (all_but_last rs) ≡ true
  unfolding keeps_all all_but_last
  keeps_but_last c [] h = refl
  keeps_but_last c (r ∷ []) h = refl
  keeps_but_last c (r ∷ q ∷ rs) h =
      let w = and_parts (keeps (sets c) r) (keeps_all (sets c) (q ∷ rs)) h in
      and_from (keeps (sets c) r) (keeps_all (sets c) (all_but_last (q ∷ rs))) w.0 (keeps_but_last c (q ∷ rs) w.1)

  fit_but_last : (rs : List (List ℕ)) → all_exist m.options rs ≡ true → all_exist m.options (all_but_last rs) ≡ true
  unfolding all_exist all_but_last
  fit_but_last [] h = refl
  fit_but_last (r ∷ []) h = refl
  fit_but_last (r ∷ q ∷ rs) h =
      let w = and_parts (exist m.options r) (all_exist m.options (q ∷ rs)) h in
      and_from (exist m.options r) (all_exist m.options (all_but_last (q ∷ rs))) w.0 (fit_but_last (q ∷ rs) w.1)

  withdraw_inv : (s : State K) → Inv K m s → Inv K m (withdrawn s)
  unfolding withdrawn in_force
  withdraw_inv s inv =
      restart_inv (all_but_last s.conditions) s.best [] (fit_but_last s.conditions inv.conditions_fit)
      (λ b q.
      let w = inv.best_admitted b q in
      (w.0, keeps-append (sets b.choice) m.rules (all_but_last s.conditions) (keeps_left (sets b.choice) m.rules s.conditions w.1) (keeps_but_last b.choice s.conditions (keeps_right (sets b.choice) m.rules s.conditions w.1)))) inv.best_charged
      (λ j l. absurd (not-suc-le-zero l)) (omega arith)

-- What stands after any calls. The book tells the conditions, and the steps while the search is not closed.
pub record Stands (K : Kind) (m : Sound) (s : State K) (b : Book) : Type 0 where
  pub inv : Inv K m s
  pub patient : Patient m s
  pub since : SinceZeroing K m s
  pub same : s.conditions ≡ b.conditions
  pub used : closed m s ≡ false → s.steps ≡ b.granted

passed : (long known full : Bool) (a b c : Refusal) → cond long (some a) (cond (not known) (some b) (cond full (some c) none)) ≡ none → known ≡ true
passed true known full a b c e = absurd (none_some (sym e))
passed false true full a b c e = refl
passed false false full a b c e = absurd (none_some (sym e))

accepted_exist : (m : Sound) (cs : List (List ℕ)) (r : List ℕ) → add_check m cs r ≡ none → exist m.options r ≡ true
unfolding add_check
accepted_exist m cs r e = passed (ltb longest_condition (length r)) (exist m.options r) (leb most_conditions (length cs)) TooLong NoSuchLiteral Full e

-- a search that starts again from conditions, a best and learned rules that stand
restart_stands : (K : Kind) (m : Sound) (cs : List (List ℕ)) (best : Option (Best K)) (rows : List Literals) (b : Book) → Inv K m (restarted cs best rows) → cs ≡ b.conditions → b.granted ≡ 0
    → Stands K m (restarted cs best rows) b
unfolding restarted
restart_stands K m cs best rows b inv e g =
    let z = since_restarted K m cs best rows in
    let w = starts cs best rows in
    record { inv = inv; patient = w.0; since = z; same = w.1 ∙ e; used = λ _. w.2 ∙ sym g }
  where
    starts : (cs : List (List ℕ)) (best : Option (Best K)) (rows : List Literals) → Patient m (restarted cs best rows) × ((restarted cs best rows).conditions ≡ cs) × ((restarted cs best rows).steps ≡ 0)
    starts cs best rows = (tt, refl, refl)

module _ (K : Kind) (laws : Laws K) (m : Sound) (limited : Limited (sound m)) where
  added_stands : (s : State K) (b : Book) (r : List ℕ) (broken : Bool) → breaks s.best r ≡ broken → Stands K m s b → exist m.options r ≡ true
      → Stands K m (added s r broken) (record { conditions = b.conditions ++ (r ∷ []); granted = 0 })
  unfolding added
  added_stands s b r true e h f =
      restart_stands K m (s.conditions ++ (r ∷ [])) none [] _ (add_inv K laws m limited s r true e h.inv f) (ap (λ (cs : List (List ℕ)). cs ++ (r ∷ [])) h.same) refl
  added_stands s b r false e h f =
      restart_stands K m (s.conditions ++ (r ∷ [])) s.best s.learned _ (add_inv K laws m limited s r false e h.inv f) (ap (λ (cs : List (List ℕ)). cs ++ (r ∷ [])) h.same) refl

  add_stands : (s : State K) (b : Book) (r : List ℕ) (o : Option Refusal) → add_check m s.conditions r ≡ o → Stands K m s b
      → Stands K m (if_accepted o (added s r (breaks s.best r)) s) (if_accepted o (record { conditions = b.conditions ++ (r ∷ []); granted = 0 }) b)
  unfolding if_accepted
  add_stands s b r none e h = added_stands s b r (breaks s.best r) refl h (accepted_exist m s.conditions r e)
  add_stands s b r (some x) e h = h

  withdraw_stands : (s : State K) (b : Book) (o : Option Refusal) → Stands K m s b
      → Stands K m (if_accepted o (withdrawn s) s) (if_accepted o (record { conditions = all_but_last b.conditions; granted = 0 }) b)
  unfolding if_accepted withdrawn
  withdraw_stands s b none h =
      restart_stands K m (all_but_last s.conditions) s.best [] _ (withdraw_inv K laws m limited s h.inv) (ap (λ (cs : List (List ℕ)). all_but_last cs) h.same) refl
  withdraw_stands s b (some x) h = h

  pub call_stands : (s : State K) (b : Book) (c : Call) → Stands K m s b → Stands K m (call K m s c) (note m b c)
  unfolding call note
  call_stands s b (add r) h =
      subst (λ (o : Option Refusal). Stands K m (call K m s (add r)) (if_accepted o (record { conditions = b.conditions ++ (r ∷ []); granted = 0 }) b))
      (ap (λ (cs : List (List ℕ)). add_check m cs r) h.same) (add_stands s b r (add_check m s.conditions r) refl h)
  call_stands s b withdraw h =
      subst (λ (o : Option Refusal). Stands K m (call K m s withdraw) (if_accepted o (record { conditions = all_but_last b.conditions; granted = 0 }) b))
      (ap (λ (cs : List (List ℕ)). withdraw_check cs) h.same) (withdraw_stands s b (withdraw_check s.conditions) h)
  call_stands s b (run n) h =
      let w = run_leads K laws m limited n s h.inv h.patient in
      record {
        inv = w.inv;
        patient = w.patient;
        since = since_ran K m s (run_steps K m n s) n h.since w;
        same = w.conditions ∙ h.same;
        used = λ q. let v = w.made q in omega (arith, v.1, h.used v.0);
      }
  call_stands s b (read size) h = h
  call_stands s b tally h = h

  pub fresh_stands : Stands K m fresh new_book
  unfolding fresh new_book
  fresh_stands = restart_stands K m [] none [] _ (fresh_inv K laws m limited) refl refl
