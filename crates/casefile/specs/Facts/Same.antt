-- Scanning a file field by field, as the program does, comes to what the rule book of the format says.
use Rattle.std.specs.Prelude.{◌≡◌, ℕ, zero, suc, ◌+◌, ◌*◌, Bool, true, false, cond, not, ◌||◌, List, [], ◌∷◌, ◌++◌, length, Ok, Err, ◌==◌, nat_eq, nat_le, nat_lt, refl}
use Rattle.std.proofs.Common.{sym, ap, subst, ◌∙◌, ⊎_elim}
use Rattle.std.proofs.Math.Option.{Option, none, some}
use Rattle.std.proofs.lemmas.Bool.{eqb-true, or_cases, both_ways}
use Rattle.cases.specs.Meanings.{Sound}
use Rattle.cases.specs.Limits.{most_options, most_rules}
use Rattle.casefile.specs.declared.field.Phase.{Phase}
use Rattle.casefile.specs.declared.field.Phase.TheVariants.{Start, Amounts, Rules, PastEnd}
use Rattle.casefile.specs.declared.fault.Fault.{Fault}
use Rattle.casefile.specs.declared.fault.Fault.TheVariants.{Truncated, UnknownTag, WrongLength, OutOfOrder, TooManyOptions, NoSuchLiteral, NotRising, ZeroAmount, TooManyRules, Trailing}
use Rattle.casefile.specs.Format.{tag, size, known, takes, phase_after, fits, past_end}
use Rattle.casefile.specs.Files.{options_in, literal_in, amount_in, rule_in, below, Check, checks, first_found, raised, known_after, finished, Outcome, accepted, refused, unless, judge_from, blank, parse}
use Rattle.casefile.specs.Fields.{gave, gave_nothing, faulty, after, content, body, field_at}
use Rattle.casefile.specs.Inner.Scanning.{judged, closed, step, scan_from, scan}

abbrev tail : List Check → List Check
tail [] = []
tail (c ∷ cs) = cs

-- The checks of the content, which come after five of the header.
abbrev content_checks : Sound → List ℕ → ℕ → ℕ → List Check
content_checks s xs i t = tail (tail (tail (tail (tail (checks Start s xs i t)))))

-- One verdict on a content: what is judged of it is what the checks find.
abbrev Agrees : Sound → List ℕ → ℕ → ℕ → Type 0
Agrees s xs i t = (k : Sound → Outcome) → closed k i (judged s (content t xs (i + 3) (size xs i))) ≡ unless (first_found (content_checks s xs i t)) i (k (known_after s xs i t))

module _ (s : Sound) (xs : List ℕ) (i : ℕ) where
  on_options : Agrees s xs i 1
  on_options k = by (nat_lt most_options (options_in xs i))
    where
      by : (b : Bool) → closed k i (cond b (Err TooManyOptions) (Ok (record { options = options_in xs i; amounts = []; rules = [] })))
          ≡ unless (cond b (some TooManyOptions) none) i (k (record { options = options_in xs i; amounts = []; rules = [] }))
      by true = refl
      by false = refl

  on_amount : Agrees s xs i 2
  on_amount k = by (nat_le (2 * s.options) (literal_in xs i)) (nat_lt (literal_in xs i) (length s.amounts)) (amount_in xs i == 0)
    where
      t : Sound
      t = record { options = s.options; amounts = raised s.amounts (literal_in xs i) (amount_in xs i); rules = s.rules }

      by : (a b c : Bool) → closed k i (cond a (Err NoSuchLiteral) (cond b (Err NotRising) (cond c (Err ZeroAmount) (Ok t))))
          ≡ unless (cond a (some NoSuchLiteral) (cond b (some NotRising) (cond c (some ZeroAmount) none))) i (k t)
      by true b c = refl
      by false true c = refl
      by false false true = refl
      by false false false = refl

  on_rule : Agrees s xs i 3
  on_rule k = by (nat_le most_rules (length s.rules)) (below (2 * s.options) (rule_in xs i))
    where
      t : Sound
      t = record { options = s.options; amounts = s.amounts; rules = s.rules ++ rule_in xs i ∷ [] }

      by : (a b : Bool) → closed k i (cond a (Err TooManyRules) (cond b (Ok t) (Err NoSuchLiteral)))
          ≡ unless (cond a (some TooManyRules) (cond (not b) (some NoSuchLiteral) none)) i (k t)
      by true b = refl
      by false true = refl
      by false false = refl

  on_end : Agrees s xs i 4
  on_end k = refl

  module _ (t : ℕ) where
    at : (n : ℕ) → t ≡ n → Agrees s xs i n → Agrees s xs i t
    at n e h = subst (Agrees s xs i) (sym e) h

    last_two : (t == 3 || t == 4) ≡ true → Agrees s xs i t
    last_two e = ⊎_elim (λ (u : nat_eq t 3 ≡ true). at 3 (eqb-true t 3 u) on_rule) (λ (u : nat_eq t 4 ≡ true). at 4 (eqb-true t 4 u) on_end) (or_cases (t == 3) (t == 4) e)

    agrees : (p : Phase) → takes p t ≡ true → Agrees s xs i t
    agrees Start e = at 1 (eqb-true t 1 e) on_options
    agrees Amounts e = ⊎_elim (λ (u : nat_eq t 2 ≡ true). at 2 (eqb-true t 2 u) on_amount) last_two (or_cases (t == 2) (t == 3 || t == 4) e)
    agrees Rules e = last_two e
    agrees PastEnd e = absurd (both_ways false refl e)

-- One field: the checks of the header, in their order, and then those of the content.
module _ (k : Sound → Phase → ℕ → Outcome) (p : Phase) (s : Sound) (xs : List ℕ) (i : ℕ) where
  abbrev t : ℕ
  t = tag xs i

  abbrev j : ℕ
  j = i + 3 + size xs i

  abbrev go : Sound → Outcome
  go u = k u (phase_after t) j

  abbrev by_content : Option Fault
  by_content = first_found (content_checks s xs i t)

  by_length : Agrees s xs i t → (a b : Bool)
      → step k s i (cond a (cond b (gave (content t xs (i + 3) (size xs i)) (phase_after t) j) (faulty Truncated i p i)) (faulty WrongLength i p i))
      ≡ unless (cond (not a) (some WrongLength) (cond (not b) (some Truncated) by_content)) i (go (known_after s xs i t))
  by_length h false b = refl
  by_length h true false = refl
  by_length h true true = h go

  by_tag : (a b : Bool) → (b ≡ true → Agrees s xs i t)
      → step k s i (body p (cond a (cond b (Ok (phase_after t)) (Err OutOfOrder)) (Err UnknownTag)) xs i t (size xs i))
      ≡ unless (cond (not a) (some UnknownTag) (cond (not b) (some OutOfOrder) (cond (not (fits t (size xs i))) (some WrongLength) (cond (not (nat_le j (length xs))) (some Truncated) by_content)))) i (go (known_after s xs i t))
  by_tag false b h = refl
  by_tag true false h = refl
  by_tag true true h = by_length (h refl) (fits t (size xs i)) (nat_le j (length xs))

  by_header : (a : Bool)
      → step k s i (cond a (body p (after p t) xs i t (size xs i)) (faulty Truncated i p i))
      ≡ unless (cond (not a) (some Truncated) (first_found (tail (checks p s xs i t)))) i (go (known_after s xs i t))
  by_header false = refl
  by_header true = by_tag (known t) (takes p t) (agrees s xs i t p)

  one_field : step k s i (field_at p xs i) ≡ unless (first_found (checks p s xs i t)) i (k (known_after s xs i t) (phase_after t) j)
  one_field = by_header (nat_le (i + 3) (length xs))

-- One field or the end, in any phase.
one : (k : Sound → Phase → ℕ → Outcome) (s : Sound) (p : Phase) (xs : List ℕ) (i : ℕ) (b : Bool)
    → step k s i (cond b (cond (nat_lt i (length xs)) (faulty Trailing i p i) (gave_nothing p i)) (field_at p xs i))
    ≡ cond b (cond (nat_lt i (length xs)) (refused Trailing i) (accepted (finished s)))
    (unless (first_found (checks p s xs i (tag xs i))) i (k (known_after s xs i (tag xs i)) (phase_after (tag xs i)) (i + 3 + size xs i)))
one k s p xs i true = by (nat_lt i (length xs))
  where
    by : (a : Bool) → step k s i (cond a (faulty Trailing i p i) (gave_nothing p i)) ≡ cond a (refused Trailing i) (accepted (finished s))
    by true = refl
    by false = refl
one k s p xs i false = one_field k p s xs i

same_from : (f : ℕ) (s : Sound) (p : Phase) (xs : List ℕ) (i : ℕ) → scan_from f s p xs i ≡ judge_from f s p xs i
unfolding judge_from
same_from zero s p xs i = refl
same_from (suc f) s p xs i =
    one (λ t q j. scan_from f t q xs j) s p xs i (past_end p)
    ∙ ap (λ (z : Outcome). cond (past_end p) (cond (nat_lt i (length xs)) (refused Trailing i) (accepted (finished s))) (unless (first_found (checks p s xs i (tag xs i))) i z))
    (same_from f (known_after s xs i (tag xs i)) (phase_after (tag xs i)) xs (i + 3 + size xs i))

pub same : (xs : List ℕ) → scan xs ≡ parse xs
unfolding parse
same xs = same_from (suc (length xs)) blank Start xs 0
