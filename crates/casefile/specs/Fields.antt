-- One field, as the reader gives it.
use Rattle.std.specs.Prelude.{◌≡◌, ℕ, ◌+◌, ◌≤◌, cond, List, length, take, drop, Some, None, Ok, Err, Option, Result, ◌==◌, nat_le, nat_lt, slice_index}
use Rattle.casefile.specs.declared.field.Phase.{Phase}
use Rattle.casefile.specs.declared.field.Field.{Field}
use Rattle.casefile.specs.declared.field.Field.TheVariants.{Options, Amount, Rule, End}
use Rattle.casefile.specs.declared.fault.Fault.{Fault}
use Rattle.casefile.specs.declared.fault.Fault.TheVariants.{Truncated, UnknownTag, WrongLength, OutOfOrder, Trailing}
use Rattle.casefile.specs.declared.fault.FileRefusal.{FileRefusal}
use Rattle.casefile.specs.Format.{two, four, tag, size, known, takes, phase_after, fits, past_end}

-- A field by its content.
pub data Item : Type 0 where
  options : ℕ → Item
  amount : ℕ → ℕ → Item
  rule : List ℕ → Item
  ended : Item

abbrev pub item : Field → Item
item (Options n) = options n
item (Amount l a) = amount l a
item (Rule part) = rule part.now
item End = ended

-- What the reader gives, with the phase and the place that it is left at: a field; nothing, after the end; or a fault and
-- its place.
pub data Given : Type 0 where
  gave : Item → Phase → ℕ → Given
  gave_nothing : Phase → ℕ → Given
  faulty : Fault → ℕ → Phase → ℕ → Given

abbrev pub given : Result (Option Field) FileRefusal → Phase → ℕ → Given
given (Ok (Some f)) p i = gave (item f) p i
given (Ok None) p i = gave_nothing p i
given (Err r) p i = faulty r.fault r.place p i

-- The phase after a tag, or what is wrong with the tag.
abbrev pub after : Phase → ℕ → Result Phase Fault
after p t = cond (known t) (cond (takes p t) (Ok (phase_after t)) (Err OutOfOrder)) (Err UnknownTag)

-- A call that answers r and leaves the phase q; a fault leaves it as it was.
abbrev pub Advanced : Phase → ℕ → Result (Unit {0}) Fault → Phase → Type 0
Advanced p t (Ok u) q = after p t ≡ Ok q
Advanced p t (Err e) q = (after p t ≡ Err e) × (q ≡ p)

-- The n bytes of content at place i, under tag t.
abbrev pub content : ℕ → List ℕ → ℕ → ℕ → Item
content t xs i n =
    cond (t == 1) (options (two xs i))
    (cond (t == 2) (amount (slice_index xs i) (four xs (i + 1))) (cond (t == 3) (rule (take n (drop i xs))) ended))

abbrev pub body : Phase → Result Phase Fault → List ℕ → ℕ → ℕ → ℕ → Given
body p (Ok q) xs i t n =
    cond (fits t n)
    (cond (nat_le (i + 3 + n) (length xs)) (gave (content t xs (i + 3) n) q (i + 3 + n)) (faulty Truncated i p i))
    (faulty WrongLength i p i)
body p (Err e) xs i t n = faulty e i p i

abbrev pub field_at : Phase → List ℕ → ℕ → Given
field_at p xs i = cond (nat_le (i + 3) (length xs)) (body p (after p (tag xs i)) xs i (tag xs i) (size xs i)) (faulty Truncated i p i)

-- What stands at place i, for a reader in this phase. A fault leaves the reader where it was.
abbrev pub next : Phase → List ℕ → ℕ → Given
next p xs i = cond (past_end p) (cond (nat_lt i (length xs)) (faulty Trailing i p i) (gave_nothing p i)) (field_at p xs i)

-- A rule that the reader hands on is a part of the file: the bytes from i + 3 on, where its field stands at i.
abbrev pub PartOf : List ℕ → ℕ → Item → Type 0
PartOf xs i (options n) = Unit {0}
PartOf xs i (amount l a) = Unit {0}
PartOf xs i (rule ls) = (i + 3 + length ls ≤ length xs) × (ls ≡ take (length ls) (drop (i + 3) xs))
PartOf xs i ended = Unit {0}

abbrev pub HandsOn : List ℕ → ℕ → Result (Option Field) FileRefusal → Type 0
HandsOn xs i (Ok (Some f)) = PartOf xs i (item f)
HandsOn xs i (Ok None) = Unit {0}
HandsOn xs i (Err r) = Unit {0}
