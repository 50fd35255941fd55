-- The checks of a condition and of a withdrawal, by what the code finds; and what a refused and an accepted one mean.
use Rattle.std.proofs.Common.{◌≡◌, ℕ, ◌*◌, ◌<◌, ◌≤◌, Bool, true, false, ◌&&◌, ltb, leb, List, [], ◌∷◌, length, Ok, Err, Result, sym, refl, ap, ◌∙◌, ⊎_elim, arith}
use mathlib.Core.Option as core
use Rattle.std.proofs.lemmas.Bool.{both_ways, cases_Bool, and_parts, and_from, lt-ltb, le-ltb, ltb-true, ltb-false, le-leb, lt-leb, leb-false}
use Rattle.cases.specs.Meanings.{Meaning, Sound, is_oversize}
use Rattle.cases.specs.declared.refusal.Refusal.{Refusal}
use Rattle.cases.specs.declared.refusal.Refusal.TheVariants.{Oversize, Full, NothingToWithdraw, TooLong, NoSuchLiteral}
use Rattle.charges.specs.Kinds.{Kind}
use Rattle.charges.specs.Charges.{contents}
use Rattle.layers.specs.Rows.{past_all}
use Rattle.calculus.specs.States.{State}
use Rattle.calculus.specs.Checks.{exist, add_check, withdraw_check, if_accepted}
use Rattle.calculus.specs.Calls as calls
use Rattle.calculus.specs.Piles.{call_on, answer_on}
use Rattle.calculus.proofs.Piles.{call_oversize, call_sound, answer_oversize, answer_sound}
use Rattle.tables.specs.Conditions.{can_hold}
use Rattle.search.specs.Replies.{done}

-- all literals of a list exist exactly if what is past them all is not past the last literal
pub exist_past : (n : ℕ) (r : List ℕ) → past_all r ≤ 2 * n → exist n r ≡ true
unfolding exist
exist_past n [] h = refl
exist_past n (l ∷ r) h = and_from (ltb l (2 * n)) (exist n r) (lt-ltb l (2 * n) (omega arith)) (exist_past n r (omega arith))

pub past_exist : (n : ℕ) (r : List ℕ) → exist n r ≡ true → past_all r ≤ 2 * n
unfolding exist
past_exist n [] h = omega arith
past_exist n (l ∷ r) h = let w = and_parts (ltb l (2 * n)) (exist n r) h in omega (arith, ltb-true l (2 * n) w.0, past_exist n r w.1)

pub not_exist : (n : ℕ) (r : List ℕ) → 2 * n < past_all r → exist n r ≡ false
not_exist n r h = ⊎_elim (λ (e : exist n r ≡ true). absurd (omega (arith, past_exist n r e))) (λ e. e) (cases_Bool (exist n r))

module _ (m : Sound) (cs : List (List ℕ)) (r : List ℕ) where
  pub add_long : 16 < length r → add_check m cs r ≡ core.some TooLong
  unfolding add_check
  add_long h = rw (lt-ltb 16 (length r) h)

  pub add_unknown : length r ≤ 16 → 2 * m.options < past_all r → add_check m cs r ≡ core.some NoSuchLiteral
  unfolding add_check
  add_unknown h f = rw (le-ltb 16 (length r) h, not_exist m.options r f)

  pub add_full : length r ≤ 16 → past_all r ≤ 2 * m.options → 32 ≤ length cs → add_check m cs r ≡ core.some Full
  unfolding add_check
  add_full h f l = rw (le-ltb 16 (length r) h, exist_past m.options r f, le-leb 32 (length cs) l)

  pub add_fine : length r ≤ 16 → past_all r ≤ 2 * m.options → length cs < 32 → add_check m cs r ≡ core.none
  unfolding add_check
  add_fine h f l = rw (le-ltb 16 (length r) h, exist_past m.options r f, lt-leb 32 (length cs) l)

  -- a condition that passes can be held
  pub add_held : 2 * m.options ≤ 128 → add_check m cs r ≡ core.none → can_hold cs r ≡ true
  unfolding add_check
  add_held few h =
      ⊎_elim (λ (a : ltb 16 (length r) ≡ true). absurd (nothing (sym (rw a at h)))) (λ (a : ltb 16 (length r) ≡ false).
      ⊎_elim (λ (b : exist m.options r ≡ true).
      ⊎_elim (λ (c : leb 32 (length cs) ≡ true). absurd (nothing (sym (rw (a, b, c) at h)))) (λ (c : leb 32 (length cs) ≡ false).
      and_from (ltb (length cs) 32) (leb (length r) 16 && leb (past_all r) 128) (lt-ltb (length cs) 32 (leb-false 32 (length cs) c))
      (and_from (leb (length r) 16) (leb (past_all r) 128) (le-leb (length r) 16 (ltb-false 16 (length r) a)) (le-leb (past_all r) 128 (omega (arith, past_exist m.options r b)))))
      (cases_Bool (leb 32 (length cs))))
      (λ (b : exist m.options r ≡ false). absurd (nothing (sym (rw (a, b) at h))))
      (cases_Bool (exist m.options r)))
      (cases_Bool (ltb 16 (length r)))
    where
      nothing : {e : Refusal} → core.none ≡ core.some e → ⊥
      nothing {e} q = both_ways (is_some (core.some e)) (ap is_some (sym q)) refl
        where
          is_some : core.Option Refusal → Bool
          is_some core.none = false
          is_some (core.some x) = true

pub withdraw_none : (cs : List (List ℕ)) → length cs ≡ 0 → withdraw_check cs ≡ core.some NothingToWithdraw
unfolding withdraw_check
withdraw_none [] e = refl
withdraw_none (c ∷ cs) e = absurd (omega arith)

pub withdraw_some : (cs : List (List ℕ)) → (length cs ≡ 0 → ⊥) → withdraw_check cs ≡ core.none
unfolding withdraw_check
withdraw_some [] e = absurd (e refl)
withdraw_some (c ∷ cs) e = refl

-- what a call's own check answers
module _ (K : Kind) (p : Meaning) (s : State K) where
  pub done_oversize : (c : calls.Call) → is_oversize p ≡ true → done (answer_on K p s c) ≡ Err Oversize
  done_oversize c e = ap done (answer_oversize K p s c e)

  module _ (sound : is_oversize p ≡ false) where
    pub done_add : (r : List ℕ) (o : core.Option Refusal) → add_check (contents p) s.conditions r ≡ o → done (answer_on K p s (calls.add r)) ≡ done (calls.checked K o)
    unfolding calls.answer
    done_add r o e = ap done (answer_sound K p s (calls.add r) sound) ∙ ap (λ (x : core.Option Refusal). done (calls.checked K x)) e

    pub done_withdraw : (o : core.Option Refusal) → withdraw_check s.conditions ≡ o → done (answer_on K p s calls.withdraw) ≡ done (calls.checked K o)
    unfolding calls.answer
    done_withdraw o e = ap done (answer_sound K p s calls.withdraw sound) ∙ ap (λ (x : core.Option Refusal). done (calls.checked K x)) e

ok_not_err : {e : Refusal} → ◌≡◌ {A = Result (Unit {0}) Refusal} (Ok tt) (Err e) → ⊥
ok_not_err {e} q = both_ways (is_ok (Ok tt)) (ap is_ok q) refl
  where
    is_ok : Result (Unit {0}) Refusal → Bool
    is_ok (Ok x) = true
    is_ok (Err e) = false

-- a check that finds nothing, and one that finds something
module _ (K : Kind) where
  pub passed : (o : core.Option Refusal) → Ok tt ≡ done (calls.checked K o) → o ≡ core.none
  unfolding calls.checked
  passed core.none h = refl
  passed (core.some e) h = absurd (ok_not_err h)

  pub stopped : {A : Type 0} (o : core.Option Refusal) (e : Refusal) (new old : A) → Err e ≡ done (calls.checked K o) → if_accepted o new old ≡ old
  unfolding calls.checked if_accepted
  stopped core.none e new old h = absurd (ok_not_err (sym h))
  stopped (core.some x) e new old h = refl

module _ (K : Kind) (p : Meaning) (s : State K) where
  -- an accepted call: the pile is sound, and its check found nothing
  pub add_accepted : (r : List ℕ) → Ok tt ≡ done (answer_on K p s (calls.add r)) → (is_oversize p ≡ false) × (add_check (contents p) s.conditions r ≡ core.none)
  add_accepted r h =
      ⊎_elim (λ (e : is_oversize p ≡ true). absurd (ok_not_err (h ∙ done_oversize K p s (calls.add r) e)))
      (λ (e : is_oversize p ≡ false). (e, passed K (add_check (contents p) s.conditions r) (h ∙ done_add K p s e r (add_check (contents p) s.conditions r) refl)))
      (cases_Bool (is_oversize p))

  pub withdraw_accepted : Ok tt ≡ done (answer_on K p s calls.withdraw) → (is_oversize p ≡ false) × (withdraw_check s.conditions ≡ core.none)
  withdraw_accepted h =
      ⊎_elim (λ (e : is_oversize p ≡ true). absurd (ok_not_err (h ∙ done_oversize K p s calls.withdraw e)))
      (λ (e : is_oversize p ≡ false). (e, passed K (withdraw_check s.conditions) (h ∙ done_withdraw K p s e (withdraw_check s.conditions) refl)))
      (cases_Bool (is_oversize p))

  -- a refused call leaves the state
  pub add_refused : (r : List ℕ) (e : Refusal) → Err e ≡ done (answer_on K p s (calls.add r)) → call_on K p s (calls.add r) ≡ s
  unfolding calls.call
  add_refused r e h =
      ⊎_elim (λ (o : is_oversize p ≡ true). call_oversize K p s (calls.add r) o)
      (λ (o : is_oversize p ≡ false). call_sound K p s (calls.add r) o ∙ stopped K (add_check (contents p) s.conditions r) e _ s (h ∙ done_add K p s o r (add_check (contents p) s.conditions r) refl))
      (cases_Bool (is_oversize p))

  pub withdraw_refused : (e : Refusal) → Err e ≡ done (answer_on K p s calls.withdraw) → call_on K p s calls.withdraw ≡ s
  unfolding calls.call
  withdraw_refused e h =
      ⊎_elim (λ (o : is_oversize p ≡ true). call_oversize K p s calls.withdraw o)
      (λ (o : is_oversize p ≡ false). call_sound K p s calls.withdraw o ∙ stopped K (withdraw_check s.conditions) e _ s (h ∙ done_withdraw K p s o (withdraw_check s.conditions) refl))
      (cases_Bool (is_oversize p))

  -- an accepted one does its work
  pub add_done : (r : List ℕ) → is_oversize p ≡ false → add_check (contents p) s.conditions r ≡ core.none → call_on K p s (calls.add r) ≡ calls.added s r (calls.breaks s.best r)
  unfolding calls.call if_accepted
  add_done r o e = call_sound K p s (calls.add r) o ∙ ap (λ (x : core.Option Refusal). if_accepted x (calls.added s r (calls.breaks s.best r)) s) e

  pub withdraw_done : is_oversize p ≡ false → withdraw_check s.conditions ≡ core.none → call_on K p s calls.withdraw ≡ calls.withdrawn s
  unfolding calls.call if_accepted
  withdraw_done o e = call_sound K p s calls.withdraw o ∙ ap (λ (x : core.Option Refusal). if_accepted x (calls.withdrawn s) s) e

  -- a call that only reads
  pub read_stays : (c : calls.Call) → calls.call K (contents p) s c ≡ s → s ≡ call_on K p s c
  read_stays c e =
      ⊎_elim (λ (o : is_oversize p ≡ true). sym (call_oversize K p s c o)) (λ (o : is_oversize p ≡ false). sym (call_sound K p s c o ∙ e)) (cases_Bool (is_oversize p))
