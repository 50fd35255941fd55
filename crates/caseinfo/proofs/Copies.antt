-- A file that was written again in full: from what the writer answers and leaves.
use Rattle.std.proofs.Common.{◌≡◌, ℕ, ◌-◌, ◌<◌, Bool, true, false, cond, ltb, leb, List, ◌++◌, length, take, drop, Ok, Err, Result, sym, refl, ap, ◌∙◌, ap₂, arith}
use Rattle.std.proofs.lemmas.List.{take_at}
use Rattle.std.proofs.lemmas.Bool.{cond-false, ltb-true, ltb-false, le-leb, lt-leb, both_ways}
use Rattle.std.specs.Result.{MatchResult}
use Rattle.cases.specs.declared.refusal.Refusal.{Refusal}
use Rattle.cases.specs.declared.refusal.Refusal.TheVariants.{ShortBuffer}
use Rattle.cases.specs.declared.summary.Summary.{Summary}
use Rattle.cases.specs.Meanings.{sound}
use Rattle.cases.specs.Summaries.{summary_of}
use Rattle.casefile.specs.declared.fault.FileRefusal.{FileRefusal}
use Rattle.casefile.specs.Files.{Outcome, accepted, refused, is_accepted, meant, parse, file_meaning}
use Rattle.casefile.specs.Bytes.{fitted, filled}
use Rattle.layers.specs.Tariffs.{tariffed}
use Rattle.caseinfo.specs.declared.report.Report.{Report}
use Rattle.caseinfo.specs.Reports.{report_of, copy_after}

-- the buffer was long enough
roomy : (xs old : List ℕ) (n : ℕ) → Ok n ≡ fitted xs old → (n ≡ length xs) × (ltb (length old) (length xs) ≡ false)
roomy xs old n a = by (ltb (length old) (length xs)) refl a
  where
    by : (b : Bool) → ltb (length old) (length xs) ≡ b → ◌≡◌ {A = Result ℕ Refusal} (Ok n) (cond b (Err ShortBuffer) (Ok (length xs))) → (n ≡ length xs) × (ltb (length old) (length xs) ≡ false)
    by true e h = absurd (let z : ◌≡◌ {A = ℕ} 0 1 = cc in omega arith)
    by false e h = (cc, e)

-- the buffer was too short
short : (xs old : List ℕ) (e : Refusal) → Err e ≡ fitted xs old → length old < length xs
short xs old e a = by (ltb (length old) (length xs)) refl a
  where
    by : (b : Bool) → ltb (length old) (length xs) ≡ b → ◌≡◌ {A = Result ℕ Refusal} (Err e) (cond b (Err ShortBuffer) (Ok (length xs))) → length old < length xs
    by true w h = ltb-true (length old) (length xs) w
    by false w h = absurd (let z : ◌≡◌ {A = ℕ} 0 1 = cc in omega arith)

reported : (v : Outcome) (xs old : List ℕ) → is_accepted v ≡ true
    → (report_of v xs old ≡ Ok (record { summary = summary_of (sound (meant v)); bytes = length xs; again = record { written = fitted xs old; equal = leb (length xs) (length old) }; tariff = record { summary = summary_of (tariffed (sound (meant v))) } })) × (copy_after v xs old ≡ filled xs old)
reported (accepted m) xs old h = (refl, refl)
reported (refused e i) xs old h = absurd (both_ways false refl h)

module _ (xs ys old : List ℕ) (r : Result ℕ Refusal) (new : List ℕ) (t : Bool) (same : ys ≡ xs) (ok : is_accepted (parse xs) ≡ true) (a : r ≡ fitted ys old) (l : new ≡ filled ys old) where
  wrote : (n : ℕ) → r ≡ Ok n → take (n - 0) new ≡ xs
  wrote n e =
      let w = roomy xs old n (sym e ∙ a ∙ ap (λ (z : List ℕ). fitted z old) same) in
      let k : n - 0 ≡ length xs = omega (arith, w.0) in
      ap₂ take k (l ∙ ap (λ (z : List ℕ). filled z old) same ∙ cond-false (ltb (length old) (length xs)) old (xs ++ drop (length xs) old) w.1) ∙ take_at xs (drop (length xs) old) (length xs) refl

  -- whether the same bytes were written, as the writer's answer says it
  flag : {P : ℕ → Type 0} (q : Result ℕ Refusal) → r ≡ q → MatchResult q P (λ _. t ≡ false) → ((n : ℕ) → P n → take (n - 0) new ≡ xs → t ≡ true) → t ≡ leb (length xs) (length old)
  flag (Ok n) e m eq = eq n m (wrote n e) ∙ sym (le-leb (length xs) (length old) (ltb-false (length old) (length xs) (roomy xs old n (sym e ∙ a ∙ ap (λ (z : List ℕ). fitted z old) same)).1))
  flag (Err f) e m eq = m ∙ sym (lt-leb (length xs) (length old) (short xs old f (sym e ∙ a ∙ ap (λ (z : List ℕ). fitted z old) same)))

  pub answers : {P : ℕ → Type 0} → MatchResult r P (λ _. t ≡ false) → ((n : ℕ) → P n → take (n - 0) new ≡ xs → t ≡ true) → (s : Summary) → s ≡ summary_of (file_meaning ys) → (q : Summary) → q ≡ summary_of (tariffed (file_meaning ys))
      → ◌≡◌ {A = Result Report FileRefusal} (Ok (record { summary = s; bytes = length xs; again = record { written = r; equal = t }; tariff = record { summary = q } })) (report_of (parse xs) xs old)
  answers m eq s e q p =
      let u : t ≡ leb (length xs) (length old) = flag r refl m eq in
      let v : s ≡ summary_of (file_meaning xs) = e ∙ ap (λ (z : List ℕ). summary_of (file_meaning z)) same in
      let w : r ≡ fitted xs old = a ∙ ap (λ (z : List ℕ). fitted z old) same in
      let x : q ≡ summary_of (tariffed (file_meaning xs)) = p ∙ ap (λ (z : List ℕ). summary_of (tariffed (file_meaning z))) same in
      cc (u, v, w, x, (reported (parse xs) xs old ok).0)

  pub leaves : new ≡ copy_after (parse xs) xs old
  leaves = l ∙ ap (λ (z : List ℕ). filled z old) same ∙ sym (reported (parse xs) xs old ok).1
