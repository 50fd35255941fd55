-- An accepted file keeps the limits.
use Rattle.std.specs.Prelude.{◌≡◌, ℕ, zero, suc, ◌+◌, ◌-◌, ◌*◌, ◌^◌, ◌<◌, ◌≤◌, true, List, [], ◌∷◌, ◌++◌, length, drop, replicate, Ok, Err, Result, ◌==◌, nat_le, nat_lt, slice_index, slice_index_or, refl}
use Rattle.std.proofs.Common.{sym, subst, ◌∙◌, ⊎_elim, arith}
use Rattle.std.proofs.lemmas.List.{length-append, length-replicate, length_push, length-take, get_or_append_left, get_or-append_right, get_or-replicate, get_or_past}
use Rattle.std.proofs.lemmas.Bool.{cases_lt, cond_both, ltb-true, ltb-false, leb-false, and_parts}
use Rattle.casefile.specs.declared.field.Phase.{Phase}
use Rattle.casefile.specs.declared.field.Phase.TheVariants.{Start}
use Rattle.casefile.specs.declared.fault.Fault.{Fault}
use Rattle.cases.specs.Meanings.{Sound, sound}
use Rattle.cases.specs.Limits.{Limited}
use Rattle.casefile.specs.Format.{Octets, two}
use Rattle.casefile.specs.Files.{zero_amount, below, blank, raised, finished, Outcome, parse, meant, file_meaning}
use Rattle.casefile.specs.Fields.{Item, options, amount, rule, ended, Given, gave, gave_nothing, faulty, next}
use Rattle.casefile.specs.Inner.Scanning.{judged, closed, step, scan_from}
use Rattle.casefile.specs.Facts.Reads.{Reads, Right, right}
use Rattle.casefile.specs.Facts.Same.{same}

-- each literal of a rule exists
abbrev pub Exist : ℕ → List ℕ → Type 0
Exist m ls = (j : ℕ) → j < length ls → slice_index_or ls j 255 < m

-- what holds of a meaning at each field
pub record Kept (s : Sound) : Type 0 where
  pub few : s.options ≤ 56
  pub up_to : length s.amounts ≤ 2 * s.options
  pub small : (l : ℕ) → slice_index s.amounts l < 2 ^ 32
  pub ruled : length s.rules ≤ 512
  pub short : (r : ℕ) → length (slice_index_or s.rules r []) ≤ 24
  pub exist : (r : ℕ) → Exist (2 * s.options) (slice_index_or s.rules r [])

pub kept_blank : Kept blank
kept_blank = record { few = omega arith; up_to = omega arith; small = λ l. omega arith; ruled = omega arith; short = λ r. omega arith; exist = λ r j h. absurd (omega arith) }

-- what holds of the default and of what is read
pub octet : (xs : List ℕ) → Octets xs → (k : ℕ) → slice_index xs k < 256
octet xs o k = ⊎_elim (λ h. o k h) (λ h. rw (get_or_past xs k 0 h) (omega arith)) (cases_lt k (length xs))

pub zeros : (n i : ℕ) → slice_index (replicate n zero_amount) i ≡ 0
zeros n i = ⊎_elim (λ h. get_or-replicate n i zero_amount 0 h) (λ h. get_or_past (replicate n zero_amount) i 0 (rw (length-replicate n zero_amount) h)) (cases_lt i n)

pub padded_read : (xs : List ℕ) (n l : ℕ) → slice_index (xs ++ replicate n zero_amount) l ≡ slice_index xs l
padded_read xs n l =
    ⊎_elim (λ i. get_or_append_left xs (replicate n zero_amount) 0 l i)
    (λ i. get_or-append_right xs (replicate n zero_amount) (length xs) l 0 refl i ∙ zeros n (l - length xs) ∙ sym (get_or_past xs l 0 i)) (cases_lt l (length xs))

pub append_both : {X : Type 0} (xs ys : List X) (i : ℕ) (d : X) (P : X → Type 0) → P (slice_index_or xs i d) → P (slice_index_or ys (i - length xs) d) → P (slice_index_or (xs ++ ys) i d)
append_both xs ys i d P a b =
    ⊎_elim (λ h. subst P (sym (get_or_append_left xs ys d i h)) a) (λ h. subst P (sym (get_or-append_right xs ys (length xs) i d refl h)) b) (cases_lt i (length xs))

one_both : {X : Type 0} (x : X) (i : ℕ) (d : X) (P : X → Type 0) → P x → P d → P (slice_index_or (x ∷ []) i d)
one_both x zero d P a b = a
one_both x (suc i) d P a b = b

pub below_exist : (m : ℕ) (ls : List ℕ) → below m ls ≡ true → Exist m ls
below_exist m [] e j h = absurd (omega arith)
below_exist m (x ∷ xs) e zero h = ltb-true x m (and_parts (nat_lt x m) (below m xs) e).0
below_exist m (x ∷ xs) e (suc j) h = below_exist m xs (and_parts (nat_lt x m) (below m xs) e).1 j (omega arith)

pub length-raised : (before : List ℕ) (l a : ℕ) → length before ≤ l → length (raised before l a) ≡ l + 1
length-raised before l a h =
    length-append before (replicate (l - length before) zero_amount ++ a ∷ [])
    ∙ rw (length-append (replicate (l - length before) zero_amount) (a ∷ []), length-replicate (l - length before) zero_amount) (omega arith)

abbrev pub KeptBy : Result Sound Fault → Type 0
KeptBy (Ok t) = Kept t
KeptBy (Err e) = Unit {0}

-- what the file says of a field's content
abbrev pub Fitting : Item → Type 0
Fitting (options n) = Unit {0}
Fitting (amount l a) = a < 2 ^ 32
Fitting (rule ls) = length ls ≤ 24
Fitting ended = Unit {0}

pub kept_judged : (s : Sound) (it : Item) → Kept s → Fitting it → KeptBy (judged s it)
kept_judged s (options n) k f =
    cond_both (nat_lt 56 n) _ _ KeptBy (λ _. tt)
    (λ e. record { few = ltb-false 56 n e; up_to = omega arith; small = λ l. omega arith; ruled = omega arith; short = λ r. omega arith; exist = λ r j h. absurd (omega arith) })
kept_judged s (amount l a) k f =
    cond_both (nat_le (2 * s.options) l) _ _ KeptBy (λ _. tt)
    (λ e. cond_both (nat_lt l (length s.amounts)) _ _ KeptBy (λ _. tt)
    (λ g. cond_both (a == 0) _ _ KeptBy (λ _. tt)
    (λ _. record {
      few = k.few;
      up_to = rw (length-raised s.amounts l a (ltb-false l (length s.amounts) g)) (omega (arith, leb-false (2 * s.options) l e));
      small = λ i. append_both s.amounts (replicate (l - length s.amounts) zero_amount ++ a ∷ []) i 0 (λ x. x < 2 ^ 32) (k.small i)
          (append_both (replicate (l - length s.amounts) zero_amount) (a ∷ []) (i - length s.amounts) 0 (λ x. x < 2 ^ 32)
          (rw (zeros (l - length s.amounts) (i - length s.amounts)) (omega arith))
          (one_both a _ 0 (λ x. x < 2 ^ 32) f (omega arith)));
      ruled = k.ruled;
      short = k.short;
      exist = k.exist;
    })))
kept_judged s (rule ls) k f =
    cond_both (nat_le 512 (length s.rules)) _ _ KeptBy (λ _. tt)
    (λ e. cond_both (below (2 * s.options) ls) _ _ KeptBy
    (λ b. record {
      few = k.few;
      up_to = k.up_to;
      small = k.small;
      ruled = rw (length_push s.rules ls) (omega (arith, leb-false 512 (length s.rules) e));
      short = λ r. append_both s.rules (ls ∷ []) r [] (λ x. length x ≤ 24) (k.short r) (one_both ls _ [] (λ x. length x ≤ 24) f (omega arith));
      exist = λ r. append_both s.rules (ls ∷ []) r [] (Exist (2 * s.options)) (k.exist r)
          (one_both ls _ [] (Exist (2 * s.options)) (below_exist (2 * s.options) ls b) (λ j h. absurd (omega arith)));
    })
    (λ _. tt))
kept_judged s ended k f = k

pub fitting : (p : Phase) (xs : List ℕ) (i : ℕ) (it : Item) (q : Phase) (j : ℕ) → Octets xs → Reads p xs i it q j → Fitting it
fitting p xs i (options n) q j o h = tt
fitting p xs i (amount l a) q j o h =
    subst (λ (x : ℕ). x < 2 ^ 32) h.4 (omega (arith, octet xs o (i + 3 + 1), octet xs o (i + 3 + 1 + 1), octet xs o (i + 3 + 1 + 2), octet xs o (i + 3 + 1 + 2 + 1)))
fitting p xs i (rule ls) q j o h =
    subst (λ (x : List ℕ). length x ≤ 24) h.4 (rw (length-take (two xs (i + 1)) (drop (i + 3) xs)) (omega (arith, h.3)))
fitting p xs i ended q j o h = tt

kept_finished : (s : Sound) → Kept s → Kept (finished s)
kept_finished s k = record {
  few = k.few;
  up_to = rw (length-append s.amounts (replicate (2 * s.options - length s.amounts) zero_amount), length-replicate (2 * s.options - length s.amounts) zero_amount) (omega (arith, k.up_to));
  small = λ l. rw (padded_read s.amounts (2 * s.options - length s.amounts) l) (k.small l);
  ruled = k.ruled;
  short = k.short;
  exist = k.exist;
}

-- the meaning is kept, and has an amount for each literal
pub record Whole (s : Sound) : Type 0 where
  pub kept : Kept s
  pub full : length s.amounts ≡ 2 * s.options

whole_blank : Whole blank
whole_blank = record { kept = kept_blank; full = refl }

whole_finished : (s : Sound) → Kept s → Whole (finished s)
whole_finished s k = record {
  kept = kept_finished s k;
  full = length-append s.amounts (replicate (2 * s.options - length s.amounts) zero_amount) ∙ rw (length-replicate (2 * s.options - length s.amounts) zero_amount) (omega (arith, k.up_to));
}

abbrev WholeOf : Outcome → Type 0
WholeOf o = Whole (meant o)

one_field : (k : Sound → Phase → ℕ → Outcome) → ((t : Sound) (q : Phase) (j : ℕ) → Kept t → WholeOf (k t q j)) → (s : Sound) → Kept s → (p : Phase) (xs : List ℕ) → Octets xs → (i : ℕ) (g : Given) → Right p xs i g → WholeOf (step k s i g)
one_field k ih s h p xs o i (gave it q j) r = by (judged s it) (kept_judged s it h (fitting p xs i it q j o r))
  where
    by : (v : Result Sound Fault) → KeptBy v → WholeOf (closed (λ t. k t q j) i v)
    by (Ok t) kt = ih t q j kt
    by (Err e) kt = whole_blank
one_field k ih s h p xs o i (gave_nothing q j) r = whole_finished s h
one_field k ih s h p xs o i (faulty e place q j) r = whole_blank

scan_whole : (f : ℕ) (s : Sound) (p : Phase) (xs : List ℕ) (i : ℕ) → Octets xs → Kept s → WholeOf (scan_from f s p xs i)
scan_whole zero s p xs i o h = whole_blank
scan_whole (suc f) s p xs i o h = one_field (λ t q j. scan_from f t q xs j) (λ t q j kt. scan_whole f t q xs j o kt) s h p xs o i (next p xs i) (right xs i p)

pub file_whole : (xs : List ℕ) → Octets xs → Whole (meant (parse xs))
file_whole xs o = subst WholeOf (same xs) (scan_whole (suc (length xs)) blank Start xs 0 o kept_blank)

pub whole_limited : (s : Sound) → Whole s → Limited (sound s)
whole_limited s w = record {
  few_options = w.kept.few;
  few_rules = w.kept.ruled;
  short_rules = w.kept.short;
  literals_exist = w.kept.exist;
  amount_each = w.full;
  small_amounts = w.kept.small;
}

pub file_limits : (xs : List ℕ) → Octets xs → Limited (file_meaning xs)
file_limits xs o = whole_limited (meant (parse xs)) (file_whole xs o)

pub below_octets : (xs : List ℕ) → below 256 xs ≡ true → Octets xs
below_octets [] e j h = absurd (omega arith)
below_octets (x ∷ xs) e zero h = ltb-true x 256 (and_parts (nat_lt x 256) (below 256 xs) e).0
below_octets (x ∷ xs) e (suc j) h = below_octets xs (and_parts (nat_lt x 256) (below 256 xs) e).1 j (omega arith)
