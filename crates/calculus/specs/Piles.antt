-- The calls on a search over a pile, which may be oversize; the state and the book after any list of calls.
use Rattle.std.specs.Prelude.{◌≡◌, cond, List, [], ◌∷◌, ◌++◌}
use Rattle.cases.specs.Meanings.{Meaning, is_oversize}
use Rattle.cases.specs.Limits.{Limited}
use Rattle.cases.specs.declared.refusal.Refusal.TheVariants.{Oversize}
use Rattle.charges.specs.Kinds.{Kind}
use Rattle.charges.specs.Charges.{contents}
use Rattle.calculus.specs.States.{State, fresh}
use Rattle.calculus.specs.Calls.{Call, Answer, refused, call, answer}
use Rattle.calculus.specs.Books.{Book, new_book, note}
use Rattle.calculus.specs.Promises.{Promises}

-- On an oversize pile every call is refused, and changes nothing.
unfoldable pub call_on : (K : Kind) → Meaning → State K → Call → State K
call_on K p s c = cond (is_oversize p) s (call K (contents p) s c)

unfoldable pub answer_on : (K : Kind) → Meaning → State K → Call → Answer K
answer_on K p s c = cond (is_oversize p) (refused Oversize) (answer K (contents p) s c)

unfoldable pub note_on : Meaning → Book → Call → Book
note_on p b c = cond (is_oversize p) b (note (contents p) b c)

-- Calls one after another, from a state.
unfoldable pub calls_on : (K : Kind) → Meaning → State K → List Call → State K
calls_on K p s [] = s
calls_on K p s (c ∷ cs) = calls_on K p (call_on K p s c) cs

unfoldable pub answers_on : (K : Kind) → Meaning → State K → List Call → List (Answer K)
answers_on K p s [] = []
answers_on K p s (c ∷ cs) = answer_on K p s c ∷ answers_on K p (call_on K p s c) cs

unfoldable pub notes_on : Meaning → Book → List Call → Book
notes_on p b [] = b
notes_on p b (c ∷ cs) = notes_on p (note_on p b c) cs

-- The state after these calls on a new search, and the book of the calls.
unfoldable pub after : (K : Kind) → Meaning → List Call → State K
after K p cs = calls_on K p fresh cs

unfoldable pub book : Meaning → List Call → Book
book p cs = notes_on p new_book cs

-- What a call's contract says of every history: it leaves what the definition says; and from the state after h it goes
-- to the state after h and the call, of which all that is promised holds.
pub record Continues (K : Kind) (p : Meaning) (entry exit : State K) (c : Call) : Type 0 where
  pub goes : exit ≡ call_on K p entry c
  pub keeps : (h : List Call) → entry ≡ after K p h → (exit ≡ after K p (h ++ (c ∷ []))) × Promises K (contents p) exit (book p (h ++ (c ∷ [])))

-- All that is promised holds after every list of calls on every pile within the limits.
abbrev pub PromisesKept : Kind → Type 0
PromisesKept K = (p : Meaning) → Limited p → (cs : List Call) → Promises K (contents p) (after K p cs) (book p cs)

-- A call that leaves what the definition says continues every history.
abbrev pub CallsContinue : Kind → Type 0
CallsContinue K = (p : Meaning) → Limited p → (entry : State K) (c : Call) → Continues K p entry (call_on K p entry c) c
