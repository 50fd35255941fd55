-- What stands after any calls is all that is promised; from the invariant.
use Rattle.std.proofs.Common.{◌≡◌, ℕ, ◌*◌, Bool, true, false, List, ◌++◌, length, sym, refl, ◌∙◌, subst, ⊎_elim, arith}
use mathlib.Core.Option.{Option, none, some}
use Rattle.std.proofs.lemmas.Bool.{both_ways, cases_Bool, not-true}
use Rattle.cases.specs.Meanings.{Sound, sound}
use Rattle.cases.specs.Literals.{Literals}
use Rattle.cases.specs.Choices.{keeps_all, sets}
use Rattle.cases.specs.Limits.{Limited}
use Rattle.charges.specs.Charges.{charge}
use Rattle.charges.specs.Kinds.{Kind, Laws}
use Rattle.calculus.specs.Scans.{any}
use Rattle.calculus.specs.States.{Best, State, in_force, most}
use Rattle.calculus.specs.Steps.{empty_set, closed, step}
use Rattle.calculus.specs.Runs.{verdict_if, cheapest, by_best, impossible, verdict, run_steps}
use Rattle.calculus.specs.Books.{Book}
use Rattle.calculus.specs.Promises.{Admitted, Cheapest, Promises}
use Rattle.calculus.proofs.Scans.{any_yes, none_some, some_same}
use Rattle.calculus.proofs.Invariant.{Inv, Better}
use Rattle.calculus.proofs.Learning.{never_twice}
use Rattle.calculus.proofs.Progress.{stepped, next_exactly}
use Rattle.calculus.proofs.Counts.{few_counts, room_left}
use Rattle.calculus.proofs.Calls.{Stands, run_leads}

-- what the verdicts say
says_cheapest : {K : Kind} (b : Bool) (o : Option (Best K)) → verdict_if b o ≡ cheapest → (b ≡ true) × ((c : Best K) × (o ≡ some c))
unfolding verdict_if by_best
says_cheapest false o e = let z : ◌≡◌ {A = ℕ} 0 1 = cc in absurd (omega arith)
says_cheapest true none e = let z : ◌≡◌ {A = ℕ} 0 1 = cc in absurd (omega arith)
says_cheapest true (some c) e = (refl, (c, refl))

says_impossible : {K : Kind} (b : Bool) (o : Option (Best K)) → verdict_if b o ≡ impossible → (b ≡ true) × (o ≡ none)
unfolding verdict_if by_best
says_impossible false o e = let z : ◌≡◌ {A = ℕ} 0 1 = cc in absurd (omega arith)
says_impossible true none e = (refl, refl)
says_impossible true (some c) e = let z : ◌≡◌ {A = ℕ} 0 1 = cc in absurd (omega arith)

is_none : {K : Kind} (o : Option (Best K)) → ((c : Best K) → o ≡ some c → ⊥) → o ≡ none
is_none none h = refl
is_none (some c) h = absurd (h c refl)

closed_set : (n : ℕ) (o : Option Literals) → empty_set n o ≡ true → (D : Literals) × (o ≡ some D) × (any (2 * n) D ≡ false)
unfolding empty_set
closed_set n none h = absurd (both_ways false refl h)
closed_set n (some D) h = (D, refl, not-true (any (2 * n) D) h)

says_nothing_else : {K : Kind} (b : Bool) (o : Option (Best K)) → b ≡ true → o ≡ none → verdict_if b o ≡ impossible
unfolding verdict_if by_best
says_nothing_else {K} b o e q = rw (e, q)

module _ (K : Kind) (m : Sound) (s : State K) (inv : Inv K m s) where
  -- a closed search: no choice that keeps the rules in force is better than the best
  none_better : closed m s ≡ true → (d : List Bool) → length d ≡ m.options → keeps_all (sets d) (in_force m s) ≡ true → Better K m s.best (sets d) → ⊥
  unfolding closed
  none_better h d l k b =
      let w = closed_set m.options s.conflict h in
      let x = inv.conflict_implied w.0 w.1 d l k b in
      both_ways (any (2 * m.options) w.0) w.2 (any_yes (2 * m.options) w.0 x.0 x.1 x.2)

module _ (K : Kind) (m : Sound) (s : State K) (b : Book) (h : Stands K m s b) where
  -- the choices that keep the rules in force are those that the book admits
  admitted_kept : (d : List Bool) → Admitted m b d → keeps_all (sets d) (in_force m s) ≡ true
  unfolding in_force
  admitted_kept d a = subst (λ (cs : List (List ℕ)). keeps_all (sets d) (m.rules ++ cs) ≡ true) (sym h.same) a.kept

  best_is_admitted : (c : Best K) → s.best ≡ some c → Admitted m b c.choice
  unfolding in_force
  best_is_admitted c e =
      let a = h.inv.best_admitted c e in
      record { whole = a.0; kept = subst (λ (cs : List (List ℕ)). keeps_all (sets c.choice) (m.rules ++ cs) ≡ true) h.same a.1 }

  none_without_best : closed m s ≡ true → s.best ≡ none → (d : List Bool) → Admitted m b d → ⊥
  none_without_best q e d ad = none_better K m s h.inv q d ad.whole (admitted_kept d ad) (λ x z. absurd (none_some (sym e ∙ z)))

  no_best_without : ((d : List Bool) → Admitted m b d → ⊥) → s.best ≡ none
  no_best_without f = is_none s.best (λ c e. f c.choice (best_is_admitted c e))

  closed_cheapest : closed m s ≡ true → (c : Best K) → s.best ≡ some c → Cheapest K m b c.choice
  closed_cheapest q c e =
      record {
        admitted = best_is_admitted c e;
        not_above =
            λ d ad.
            ⊎_elim (λ (y : K.not_above (charge K m (sets c.choice)) (charge K m (sets d)) ≡ true). y)
            (λ (y : K.not_above (charge K m (sets c.choice)) (charge K m (sets d)) ≡ false).
            absurd
            (none_better K m s h.inv q d ad.whole (admitted_kept d ad)
            (λ x z. subst (λ (w : Best K). K.not_above w.charge (charge K m (sets d)) ≡ false) (some_same (sym e ∙ z)) (rw (h.inv.best_charged c e) y))))
            (cases_Bool (K.not_above (charge K m (sets c.choice)) (charge K m (sets d))));
      }

pub promises : (K : Kind) → Laws K → (m : Sound) → Limited (sound m) → (s : State K) (b : Book) → Stands K m s b → Promises K m s b
unfolding verdict
promises K laws m limited s b h =
    record {
      conditions_stand = h.same;
      best_is_cheapest = λ e. let w = says_cheapest (closed m s) s.best e in (w.1.0, w.1.1, closed_cheapest K m s b h w.0 w.1.0 w.1.1);
      none_admitted = λ e. let w = says_impossible (closed m s) s.best e in none_without_best K m s b h w.0 w.1;
      says_impossible =
          λ q. (
            λ e. none_without_best K m s b h q (says_impossible (closed m s) s.best e).1,
            λ f. says_nothing_else (closed m s) s.best q (no_best_without K m s b h f),
          );
      best_admitted = best_is_admitted K m s b h;
      best_charged = h.inv.best_charged;
      few_conflicts = (few_counts K m s h.inv).0;
      few_steps = let c = few_counts K m s h.inv in omega (arith, c.1);
      room_left = room_left K m limited s h.inv;
      closes =
          λ l.
          ⊎_elim (λ (q : closed m s ≡ true). q) (λ (q : closed m s ≡ false). absurd (omega (arith, h.used q, (few_counts K m s h.inv).1))) (cases_Bool (closed m s));
      spent = h.used;
      one_run_closes =
          let w = run_leads K laws m limited most s h.inv h.patient in
          ⊎_elim (λ (q : closed m (run_steps K m most s) ≡ true). q)
          (λ (q : w.run_of.made ≡ most). absurd (omega (arith, w.run_of.counted, room_left K m limited (run_steps K m most s) w.inv)))
          w.run_of.ends;
      since_zeroing = h.since;
      never_stuck = λ q. (step K m s, (stepped K laws m limited s h.inv h.patient q).next);
      steps_by_priority = next_exactly K laws m limited s h.inv h.patient;
      runs = λ n. (run_leads K laws m limited n s h.inv h.patient).run_of;
      levelled = h.inv.levelled;
      reasoned = h.inv.reasoned;
      few_learned = h.inv.few_learned;
      learns_new = never_twice K m s h.inv h.patient;
    }
