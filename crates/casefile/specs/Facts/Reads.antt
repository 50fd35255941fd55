-- What the file has where a field is given.
use Rattle.std.specs.Prelude.{◌≡◌, ℕ, ◌+◌, ◌≤◌, Bool, true, false, ◌||◌, List, length, take, drop, Ok, Result, ◌==◌, nat_eq, nat_le, nat_lt, slice_index, refl}
use Rattle.std.proofs.Common.{sym, ap, subst, ◌∙◌, ⊎_elim}
use Rattle.std.proofs.lemmas.Bool.{eqb-true, leb-true, ltb-false, cond_both, or_cases, both_ways}
use Rattle.casefile.specs.declared.field.Phase.{Phase}
use Rattle.casefile.specs.declared.field.Phase.TheVariants.{Start, Amounts, Rules, PastEnd}
use Rattle.casefile.specs.declared.fault.Fault.{Fault}
use Rattle.casefile.specs.Format.{two, four, tag, size, fits, takes, known, phase_after, past_end}
use Rattle.casefile.specs.Fields.{Item, options, amount, rule, ended, Given, gave, gave_nothing, faulty, content, body, field_at, next}

-- The phase has passed the options, and not the end.
abbrev pub open_phase : Phase → Bool
open_phase Start = false
open_phase Amounts = true
open_phase Rules = true
open_phase PastEnd = false

-- A field of this tag and length stands at i, and j is the place after it.
pub record Header (xs : List ℕ) (i t n j : ℕ) : Type 0 where
  pub tagged : tag xs i ≡ t
  pub long : size xs i ≡ n
  pub next_place : j ≡ i + 3 + n
  pub within : j ≤ length xs

abbrev pub Reads : Phase → List ℕ → ℕ → Item → Phase → ℕ → Type 0
Reads p xs i (options n) q j = (p ≡ Start) × (q ≡ Amounts) × Header xs i 1 2 j × (two xs (i + 3) ≡ n)
Reads p xs i (amount l a) q j = (p ≡ Amounts) × (q ≡ Amounts) × Header xs i 2 5 j × (slice_index xs (i + 3) ≡ l) × (four xs (i + 3 + 1) ≡ a)
Reads p xs i (rule ls) q j = (open_phase p ≡ true) × (q ≡ Rules) × Header xs i 3 (size xs i) j × (size xs i ≤ 24) × (take (size xs i) (drop (i + 3) xs) ≡ ls)
Reads p xs i ended q j = (open_phase p ≡ true) × (q ≡ PastEnd) × Header xs i 4 0 j

-- Nothing is given only past the end, and at the file's end.
abbrev pub Right : Phase → List ℕ → ℕ → Given → Type 0
Right p xs i (gave it q j) = Reads p xs i it q j
Right p xs i (gave_nothing q j) = (p ≡ PastEnd) × (length xs ≤ i)
Right p xs i (faulty e place q j) = Unit {0}

module _ (xs : List ℕ) (i : ℕ) where
  abbrev n : ℕ
  n = size xs i

  -- A field whose tag is taken: t is the tag as a number, and what has to be seen is how its content reads.
  taken : (p : Phase) (t : ℕ) (it : Item) → content t xs (i + 3) n ≡ it
      → (fits t n ≡ true → i + 3 + n ≤ length xs → Reads p xs i it (phase_after t) (i + 3 + n)) → Right p xs i (body p (Ok (phase_after t)) xs i t n)
  taken p t it e reads-it =
      cond_both (fits t n) _ _ (Right p xs i)
      (λ h. cond_both (nat_le (i + 3 + n) (length xs)) _ _ (Right p xs i)
      (λ k. subst (λ (z : Item). Reads p xs i z (phase_after t) (i + 3 + n)) (sym e) (reads-it h (leb-true (i + 3 + n) (length xs) k))) (λ _. tt))
      (λ _. tt)

  header : (t m : ℕ) → tag xs i ≡ t → n ≡ m → i + 3 + n ≤ length xs → Header xs i t m (i + 3 + n)
  header t m w e k = record { tagged = w; long = e; next_place = ap (λ (z : ℕ). i + 3 + z) e; within = k }

  -- By the tag.
  at_tag : (p : Phase) (t k : ℕ) → tag xs i ≡ t → t ≡ k → Right p xs i (body p (Ok (phase_after k)) xs i k n) → Right p xs i (body p (Ok (phase_after t)) xs i t n)
  at_tag p t k w e = subst (λ (z : ℕ). Right p xs i (body p (Ok (phase_after z)) xs i z n)) (sym e)

  module _ (p : Phase) (t : ℕ) (w : tag xs i ≡ t) where
    first : t ≡ 1 → p ≡ Start → Right p xs i (body p (Ok (phase_after t)) xs i t n)
    first e a = at_tag p t 1 w e (taken p 1 (options (two xs (i + 3))) refl (λ h k. (a, refl, header 1 2 (w ∙ e) (eqb-true n 2 h) k, refl)))

    second : t ≡ 2 → p ≡ Amounts → Right p xs i (body p (Ok (phase_after t)) xs i t n)
    second e a = at_tag p t 2 w e (taken p 2 (amount (slice_index xs (i + 3)) (four xs (i + 3 + 1))) refl (λ h k. (a, refl, header 2 5 (w ∙ e) (eqb-true n 5 h) k, refl, refl)))

    third : t ≡ 3 → open_phase p ≡ true → Right p xs i (body p (Ok (phase_after t)) xs i t n)
    third e a = at_tag p t 3 w e (taken p 3 (rule (take n (drop (i + 3) xs))) refl (λ h k. (a, refl, header 3 n (w ∙ e) refl k, leb-true n 24 h, refl)))

    fourth : t ≡ 4 → open_phase p ≡ true → Right p xs i (body p (Ok (phase_after t)) xs i t n)
    fourth e a = at_tag p t 4 w e (taken p 4 ended refl (λ h k. (a, refl, header 4 0 (w ∙ e) (eqb-true n 0 h) k)))

    last_two : open_phase p ≡ true → (t == 3 || t == 4) ≡ true → Right p xs i (body p (Ok (phase_after t)) xs i t n)
    last_two a e = ⊎_elim (λ (u : nat_eq t 3 ≡ true). third (eqb-true t 3 u) a) (λ (u : nat_eq t 4 ≡ true). fourth (eqb-true t 4 u) a) (or_cases (t == 3) (t == 4) e)

  by_phase : (p : Phase) (t : ℕ) → tag xs i ≡ t → takes p t ≡ true → Right p xs i (body p (Ok (phase_after t)) xs i t n)
  by_phase Start t w e = first Start t w (eqb-true t 1 e) refl
  by_phase Amounts t w e =
      ⊎_elim (λ (u : nat_eq t 2 ≡ true). second Amounts t w (eqb-true t 2 u) refl) (last_two Amounts t w refl) (or_cases (t == 2) (t == 3 || t == 4) e)
  by_phase Rules t w e = last_two Rules t w refl e
  by_phase PastEnd t w e = absurd (both_ways false refl e)

  at_field : (p : Phase) → Right p xs i (field_at p xs i)
  at_field p =
      let t : ℕ = tag xs i in
      let P : Result Phase Fault → Type 0 = λ a. Right p xs i (body p a xs i t n) in
      cond_both (nat_le (i + 3) (length xs)) _ _ (Right p xs i)
      (λ _. cond_both (known t) _ _ P (λ _. cond_both (takes p t) _ _ P (by_phase p t refl) (λ _. tt)) (λ _. tt)) (λ _. tt)

  ended_phase : (p : Phase) → past_end p ≡ true → p ≡ PastEnd
  ended_phase Start e = absurd (both_ways false refl e)
  ended_phase Amounts e = absurd (both_ways false refl e)
  ended_phase Rules e = absurd (both_ways false refl e)
  ended_phase PastEnd e = refl

  pub right : (p : Phase) → Right p xs i (next p xs i)
  right p =
      cond_both (past_end p) _ _ (Right p xs i)
      (λ e. cond_both (nat_lt i (length xs)) _ _ (Right p xs i) (λ _. tt) (λ h. (ended_phase p e, ltb-false i (length xs) h))) (λ _. at_field p)

pub reads : (p : Phase) (xs : List ℕ) (i : ℕ) (it : Item) (q : Phase) (j : ℕ) → gave it q j ≡ next p xs i → Reads p xs i it q j
reads p xs i it q j e = subst (Right p xs i) (sym e) (right xs i p)

pub at_file_end : (p : Phase) (xs : List ℕ) (i : ℕ) (q : Phase) (j : ℕ) → gave_nothing q j ≡ next p xs i → (p ≡ PastEnd) × (length xs ≤ i)
at_file_end p xs i q j e = subst (Right p xs i) (sym e) (right xs i p)
