-- The round trip, as the calls have it: from reading back (Forward) and writing again (Backward).
use Rattle.std.proofs.Common.{◌≡◌, ℕ, true, false, ltb, List, ◌++◌, length, take, drop, Ok, Err, Result, sym, refl, ap, ◌∙◌, subst, ⊎_elim}
use Rattle.std.proofs.lemmas.List.{take_at}
use Rattle.std.proofs.lemmas.Bool.{cond-true, cond-false, cases_Bool, both_ways}
use Rattle.cases.specs.Meanings.{Sound, Meaning, oversize, sound}
use Rattle.cases.specs.Limits.{Limited}
use Rattle.cases.specs.declared.refusal.Refusal.{Refusal}
use Rattle.cases.specs.declared.refusal.Refusal.TheVariants.{ShortBuffer}
use Rattle.casefile.specs.Format.{Octets}
use Rattle.casefile.specs.Files.{Outcome, accepted, refused, parse, meant, is_accepted}
use Rattle.casefile.specs.Bytes.{encode, written, buffer_after}
use Rattle.casefile.specs.Laws.{Readable, RoundTrip}
use Rattle.casefile.specs.Facts.Whole.{file_whole, whole_limited}
use Rattle.casefile.proofs.Forward.{reads_back}
use Rattle.casefile.proofs.Backward.{written_again}

pub readable : (m : Meaning) (old new : List ℕ) (r : Result ℕ Refusal) → Limited m → r ≡ written m old → new ≡ buffer_after m old → Readable m r new
readable oversize old new r h a b = tt
readable (sound s) old new r h a b =
    let n : ℕ = length (encode s) in
    ⊎_elim
    (λ (t : ltb (length old) n ≡ true). subst (λ (z : Result ℕ Refusal). Readable (sound s) z new) (sym (a ∙ cond-true (ltb (length old) n) (Err ShortBuffer) (Ok n) t)) tt)
    (λ (t : ltb (length old) n ≡ false).
    subst (λ (z : Result ℕ Refusal). Readable (sound s) z new) (sym (a ∙ cond-false (ltb (length old) n) (Err ShortBuffer) (Ok n) t))
    (ap (λ (z : List ℕ). parse (take n z)) (b ∙ cond-false (ltb (length old) n) old (encode s ++ drop n old) t) ∙ ap parse (take_at (encode s) (drop n old) n refl) ∙ reads_back s h))
    (cases_Bool (ltb (length old) n))

-- an accepted outcome is that of its meaning
accepted_is : (v : Outcome) → is_accepted v ≡ true → v ≡ accepted (meant v)
accepted_is (accepted m) h = refl
accepted_is (refused e i) h = absurd (both_ways false refl h)

-- an accepted file's meaning as bytes is the file
pub same_bytes : (xs : List ℕ) → Octets xs → is_accepted (parse xs) ≡ true → encode (meant (parse xs)) ≡ xs
same_bytes xs o a = written_again xs (meant (parse xs)) o (accepted_is (parse xs) a)

limited : (xs : List ℕ) (m : Sound) → Octets xs → parse xs ≡ accepted m → Limited (sound m)
limited xs m o e = subst (λ (z : Outcome). Limited (sound (meant z))) e (whole_limited (meant (parse xs)) (file_whole xs o))

pub round_trip : RoundTrip
round_trip = record {
  reads_back = reads_back;
  same_again = written_again;
  exactly = λ xs m o. (
    (λ e. (limited xs m o e, written_again xs m o e)),
    (λ h. ap parse (sym h.1) ∙ reads_back m h.0),
  );
}
