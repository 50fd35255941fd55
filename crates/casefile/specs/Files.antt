-- What a byte string is: a case file with its meaning, or refused for the first faulty field, at that field's place.
use Rattle.std.specs.Prelude.{ℕ, zero, suc, ◌+◌, ◌-◌, ◌*◌, Bool, true, false, cond, not, ◌&&◌, List, [], ◌∷◌, ◌++◌, length, take, drop, replicate, ◌==◌, nat_le, nat_lt, slice_index}
use Rattle.std.proofs.Math.Option.{Option, none, some}
use Rattle.cases.specs.Meanings.{Sound, Meaning, sound}
use Rattle.cases.specs.Limits.{most_options, most_rules}
use Rattle.casefile.specs.declared.field.Phase.{Phase}
use Rattle.casefile.specs.declared.field.Phase.TheVariants.{Start}
use Rattle.casefile.specs.declared.fault.Fault.{Fault}
use Rattle.casefile.specs.declared.fault.Fault.TheVariants.{Truncated, UnknownTag, WrongLength, OutOfOrder, TooManyOptions, NoSuchLiteral, NotRising, ZeroAmount, TooManyRules, Trailing}
use Rattle.casefile.specs.Format.{two, four, tag, size, known, takes, phase_after, fits, past_end}

-- The parts of a field's content at place i: the options; the literal and the amount; the rule's literals.
abbrev pub options_in : List ℕ → ℕ → ℕ
options_in xs i = two xs (i + 3)

abbrev pub literal_in : List ℕ → ℕ → ℕ
literal_in xs i = slice_index xs (i + 3)

abbrev pub amount_in : List ℕ → ℕ → ℕ
amount_in xs i = four xs (i + 3 + 1)

abbrev pub rule_in : List ℕ → ℕ → List ℕ
rule_in xs i = take (size xs i) (drop (i + 3) xs)

-- All are below m.
abbrev pub below : ℕ → List ℕ → Bool
below m [] = true
below m (x ∷ xs) = nat_lt x m && below m xs

-- A check: what is wrong with a field where its test holds.
pub record Check : Type 0 where
  pub fault : Fault
  pub found : Bool

abbrev pub wrong : Fault → Bool → Check
wrong e b = record { fault = e; found = b }

-- The checks of the field with tag t at place i, in their order. The reader stands at p, and s is what the fields before
-- say; of its amounts it has those up to the last literal that was given one.
abbrev pub checks : Phase → Sound → List ℕ → ℕ → ℕ → List Check
checks p s xs i t =
    wrong Truncated (not (nat_le (i + 3) (length xs)))
    ∷ wrong UnknownTag (not (known t))
    ∷ wrong OutOfOrder (not (takes p t))
    ∷ wrong WrongLength (not (fits t (size xs i)))
    ∷ wrong Truncated (not (nat_le (i + 3 + size xs i) (length xs)))
    ∷ wrong TooManyRules (t == 3 && nat_le most_rules (length s.rules))
    ∷ wrong TooManyOptions (t == 1 && nat_lt most_options (options_in xs i))
    ∷ wrong NoSuchLiteral (cond (t == 2) (nat_le (2 * s.options) (literal_in xs i)) (t == 3 && not (below (2 * s.options) (rule_in xs i))))
    ∷ wrong NotRising (t == 2 && nat_lt (literal_in xs i) (length s.amounts))
    ∷ wrong ZeroAmount (t == 2 && amount_in xs i == 0)
    ∷ []

-- The first check that finds something.
abbrev pub first_found : List Check → Option Fault
first_found [] = none
first_found (c ∷ cs) = cond c.found (some c.fault) (first_found cs)

abbrev pub zero_amount : ℕ
zero_amount = 0

-- The amounts up to that of literal l, which is a; those that are missing are 0.
abbrev pub raised : List ℕ → ℕ → ℕ → List ℕ
raised amounts l a = amounts ++ (replicate (l - length amounts) zero_amount ++ a ∷ [])

-- What is known after the field with tag t at place i.
abbrev pub known_after : Sound → List ℕ → ℕ → ℕ → Sound
known_after s xs i t =
    cond (t == 1) (record { options = options_in xs i; amounts = []; rules = [] })
    (cond (t == 2) (record { options = s.options; amounts = raised s.amounts (literal_in xs i) (amount_in xs i); rules = s.rules })
    (cond (t == 3) (record { options = s.options; amounts = s.amounts; rules = s.rules ++ rule_in xs i ∷ [] }) s))

-- An amount for every literal: missing ones are 0.
abbrev pub finished : Sound → Sound
finished s = record { options = s.options; amounts = s.amounts ++ replicate (2 * s.options - length s.amounts) zero_amount; rules = s.rules }

pub data Outcome : Type 0 where
  accepted : Sound → Outcome
  refused : Fault → ℕ → Outcome

-- The first fault counts; without one the rest decides.
abbrev pub unless : Option Fault → ℕ → Outcome → Outcome
unless none i rest = rest
unless (some e) i rest = refused e i

-- The bytes from place i on, in at most f fields.
unfoldable pub judge_from : ℕ → Sound → Phase → List ℕ → ℕ → Outcome
judge_from zero s p xs i = refused Truncated i
judge_from (suc f) s p xs i =
    cond (past_end p) (cond (nat_lt i (length xs)) (refused Trailing i) (accepted (finished s)))
    (unless (first_found (checks p s xs i (tag xs i))) i (judge_from f (known_after s xs i (tag xs i)) (phase_after (tag xs i)) xs (i + 3 + size xs i)))

abbrev pub blank : Sound
blank = record { options = 0; amounts = []; rules = [] }

-- Every field has three bytes or more, so one field for each byte, and one more, is never too few.
unfoldable pub parse : List ℕ → Outcome
parse xs = judge_from (suc (length xs)) blank Start xs 0

abbrev pub is_accepted : Outcome → Bool
is_accepted (accepted s) = true
is_accepted (refused e i) = false

-- The meaning of an accepted file.
abbrev pub meant : Outcome → Sound
meant (accepted s) = s
meant (refused e i) = blank

abbrev pub file_meaning : List ℕ → Meaning
file_meaning xs = sound (meant (parse xs))
