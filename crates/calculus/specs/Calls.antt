-- The calls on a search over a sound pile: what each makes of the state, and what it answers.
use Rattle.std.specs.Prelude.{ℕ, Bool, true, false, cond, not, List, [], ◌∷◌, ◌++◌, map, length, drop, nat_lt}
use Rattle.std.proofs.Math.Option.{Option, none, some}
use Rattle.cases.specs.Choices.{sets, keeps}
use Rattle.cases.specs.Meanings.{Sound}
use Rattle.cases.specs.declared.refusal.Refusal.{Refusal}
use Rattle.cases.specs.declared.refusal.Refusal.TheVariants.{NoBest, ShortBuffer}
use Rattle.charges.specs.Kinds.{Kind}
use Rattle.calculus.specs.Scans.{all_but_last}
use Rattle.calculus.specs.States.{Best, State, restarted}
use Rattle.calculus.specs.Checks.{add_check, withdraw_check, if_accepted}
use Rattle.calculus.specs.Runs.{Verdict, verdict, run_steps, steps_made}

-- `read` tells the length of the caller's buffer.
pub data Call : Type 0 where
  add : List ℕ → Call
  withdraw : Call
  run : ℕ → Call
  read : ℕ → Call
  tally : Call

-- Whether the best breaks a condition.
unfoldable pub breaks : {K : Kind} → Option (Best K) → List ℕ → Bool
breaks none r = false
breaks (some b) r = not (keeps (sets b.choice) r)

-- The condition is appended. If the best breaks it, the best and all learned rules go; otherwise both stay.
unfoldable pub added : {K : Kind} → State K → List ℕ → Bool → State K
added s r true = restarted (s.conditions ++ (r ∷ [])) none []
added s r false = restarted (s.conditions ++ (r ∷ [])) s.best s.learned

-- The newest condition is removed and all learned rules go; the best stays.
unfoldable pub withdrawn : {K : Kind} → State K → State K
withdrawn s = restarted (all_but_last s.conditions) s.best []

-- What a call makes of the state. A refused one leaves it as it was.
unfoldable pub call : (K : Kind) → Sound → State K → Call → State K
call K m s (add r) = if_accepted (add_check m s.conditions r) (added s r (breaks s.best r)) s
call K m s withdraw = if_accepted (withdraw_check s.conditions) (withdrawn s) s
call K m s (run b) = run_steps K m b s
call K m s (read size) = s
call K m s tally = s

-- What a call answers.
pub data Answer (K : Kind) : Type 0 where
  accepted : Answer K
  refused : Refusal → Answer K
  -- the steps made, and the verdict
  ran : ℕ → Verdict → Answer K
  -- the choice written, and its charge
  shown : List Bool → K.charges → Answer K
  -- conflicts and steps since the last zeroing
  counts : ℕ → ℕ → Answer K

unfoldable pub checked : (K : Kind) → Option Refusal → Answer K
checked K none = accepted
checked K (some e) = refused e

unfoldable pub reads : (K : Kind) → Sound → ℕ → Option (Best K) → Answer K
reads K m size none = refused NoBest
reads K m size (some b) = cond (nat_lt size m.options) (refused ShortBuffer) (shown b.choice b.charge)

unfoldable pub answer : (K : Kind) → Sound → State K → Call → Answer K
answer K m s (add r) = checked K (add_check m s.conditions r)
answer K m s withdraw = checked K (withdraw_check s.conditions)
answer K m s (run b) = ran (steps_made K m b s) (verdict m (run_steps K m b s))
answer K m s (read size) = reads K m size s.best
answer K m s tally = counts s.conflicts s.steps

-- What the caller's buffer holds after a read: 1 or 0 for each option of the choice shown, and then what it held.
unfoldable pub written : List Bool → List ℕ → List ℕ
written choice buffer = map (λ b. cond b 1 0) choice ++ drop (length choice) buffer

unfoldable pub buffer_after : {K : Kind} → Answer K → List ℕ → List ℕ
buffer_after accepted buffer = buffer
buffer_after (refused e) buffer = buffer
buffer_after (ran k v) buffer = buffer
buffer_after (shown c p) buffer = written c buffer
buffer_after (counts c k) buffer = buffer
