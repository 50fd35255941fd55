-- The calls on a pile keep what is promised, after every list of calls; from what one call on a sound pile keeps.
use Rattle.std.proofs.Common.{◌≡◌, Bool, true, false, cond, List, [], ◌∷◌, ◌++◌, sym, refl, ap, ◌∙◌, subst, arith}
use Rattle.cases.specs.Limits.{Limited}
use Rattle.cases.specs.Meanings.{Meaning, sound, oversize, is_oversize}
use Rattle.cases.specs.declared.refusal.Refusal.TheVariants.{Oversize}
use Rattle.charges.specs.Charges.{contents}
use Rattle.charges.specs.Kinds.{Kind, Laws}
use Rattle.calculus.specs.States.{State, fresh}
use Rattle.calculus.specs.Calls.{Call, call, refused, answer}
use Rattle.calculus.specs.Books.{Book, note, new_book}
use Rattle.calculus.specs.Promises.{Promises}
use Rattle.calculus.specs.Piles.{call_on, answer_on, note_on, calls_on, notes_on, after, book, Continues, PromisesKept, CallsContinue}
use Rattle.calculus.proofs.Calls.{Stands, call_stands, fresh_stands}
use Rattle.calculus.proofs.Promises.{promises}

-- what an oversize pile tells keeps the limits too
pub limited_contents : (p : Meaning) → Limited p → Limited (sound (contents p))
limited_contents oversize h = record {
  few_options = omega arith;
  few_rules = omega arith;
  short_rules = λ r. omega arith;
  literals_exist = λ r j k. omega arith;
  amount_each = refl;
  small_amounts = λ l. omega arith;
}
limited_contents (sound m) h = h

-- on an oversize pile, and on a sound one
module _ (K : Kind) (p : Meaning) (s : State K) (c : Call) where
  pub call_oversize : is_oversize p ≡ true → call_on K p s c ≡ s
  unfolding call_on
  call_oversize e = rw e

  pub call_sound : is_oversize p ≡ false → call_on K p s c ≡ call K (contents p) s c
  unfolding call_on
  call_sound e = rw e

  pub answer_oversize : is_oversize p ≡ true → answer_on K p s c ≡ refused Oversize
  unfolding answer_on
  answer_oversize e = rw e

  pub answer_sound : is_oversize p ≡ false → answer_on K p s c ≡ answer K (contents p) s c
  unfolding answer_on
  answer_sound e = rw e

module _ (K : Kind) (laws : Laws K) (p : Meaning) (limited : Limited p) where
  stands_on : (s : State K) (b : Book) (c : Call) → Stands K (contents p) s b → Stands K (contents p) (call_on K p s c) (note_on p b c)
  unfolding call_on note_on
  stands_on s b c h = go (is_oversize p) refl
    where
      go : (o : Bool) → is_oversize p ≡ o → Stands K (contents p) (cond (is_oversize p) s (call K (contents p) s c)) (cond (is_oversize p) b (note (contents p) b c))
      go true e = rw e h
      go false e = rw e (call_stands K laws (contents p) (limited_contents p limited) s b c h)

  stands_from : (s : State K) (b : Book) (cs : List Call) → Stands K (contents p) s b → Stands K (contents p) (calls_on K p s cs) (notes_on p b cs)
  unfolding calls_on notes_on
  stands_from s b [] h = h
  stands_from s b (c ∷ cs) h = stands_from (call_on K p s c) (note_on p b c) cs (stands_on s b c h)

  pub stands_after : (cs : List Call) → Stands K (contents p) (after K p cs) (book p cs)
  unfolding after book
  stands_after cs = stands_from fresh new_book cs (fresh_stands K laws (contents p) (limited_contents p limited))

  pub promises_after : (cs : List Call) → Promises K (contents p) (after K p cs) (book p cs)
  promises_after cs = promises K laws (contents p) (limited_contents p limited) (after K p cs) (book p cs) (stands_after cs)

  calls_push : (s : State K) (cs : List Call) (c : Call) → calls_on K p s (cs ++ (c ∷ [])) ≡ call_on K p (calls_on K p s cs) c
  unfolding calls_on
  calls_push s [] c = refl
  calls_push s (d ∷ cs) c = calls_push (call_on K p s d) cs c

  -- one more call at the end
  pub after_push : (cs : List Call) (c : Call) → after K p (cs ++ (c ∷ [])) ≡ call_on K p (after K p cs) c
  unfolding after
  after_push cs c = calls_push fresh cs c

  -- a call that leaves what the definition says continues every history
  pub continues : (entry exit : State K) (c : Call) → exit ≡ call_on K p entry c → Continues K p entry exit c
  continues entry exit c e =
      record {
        goes = e;
        keeps =
            λ h was.
            let is : exit ≡ after K p (h ++ (c ∷ [])) = e ∙ ap (λ (s : State K). call_on K p s c) was ∙ sym (after_push h c) in
            (is, subst (λ (s : State K). Promises K (contents p) s (book p (h ++ (c ∷ [])))) (sym is) (promises_after (h ++ (c ∷ []))));
      }

notes_push : (p : Meaning) (b : Book) (cs : List Call) (c : Call) → notes_on p b (cs ++ (c ∷ [])) ≡ note_on p (notes_on p b cs) c
unfolding notes_on
notes_push p b [] c = refl
notes_push p b (d ∷ cs) c = notes_push p (note_on p b d) cs c

pub book_push : (p : Meaning) (cs : List Call) (c : Call) → book p (cs ++ (c ∷ [])) ≡ note_on p (book p cs) c
unfolding book
book_push p cs c = notes_push p new_book cs c

-- The promises are kept, in every lawful kind.
pub promises_kept : (K : Kind) → Laws K → PromisesKept K
promises_kept K laws p limited cs = promises_after K laws p limited cs

pub calls_continue : (K : Kind) → Laws K → CallsContinue K
calls_continue K laws p limited entry c = continues K laws p limited entry (call_on K p entry c) c refl
