-- A field of a case file: a tag byte, a length of two bytes, and as many bytes of content. Numbers have their high byte
-- first. Tag 1 is the options, tag 2 an amount, tag 3 a rule and tag 4 the end.
use Rattle.std.specs.Prelude.{ℕ, ◌+◌, ◌*◌, ◌<◌, Bool, true, false, cond, ◌&&◌, ◌||◌, List, length, ◌==◌, nat_le, slice_index}
use Rattle.casefile.specs.declared.field.Phase.{Phase}
use Rattle.casefile.specs.declared.field.Phase.TheVariants.{Start, Amounts, Rules, PastEnd}

-- A list of bytes.
abbrev pub Octets : List ℕ → Type 0
Octets xs = (k : ℕ) → k < length xs → slice_index xs k < 256

-- The number in the two bytes at place i, and in the four.
abbrev pub two : List ℕ → ℕ → ℕ
two xs i = slice_index xs i * 256 + slice_index xs (i + 1)

abbrev pub four : List ℕ → ℕ → ℕ
four xs i = two xs i * 65536 + two xs (i + 2)

-- The tag and the length of the field at place i. Its content begins at i + 3.
abbrev pub tag : List ℕ → ℕ → ℕ
tag xs i = slice_index xs i

abbrev pub size : List ℕ → ℕ → ℕ
size xs i = two xs (i + 1)

abbrev pub known : ℕ → Bool
known t = nat_le 1 t && nat_le t 4

-- Which tags may come next: the options first and once, then amounts, then rules, then the end.
abbrev pub takes : Phase → ℕ → Bool
takes Start t = t == 1
takes Amounts t = t == 2 || (t == 3 || t == 4)
takes Rules t = t == 3 || t == 4
takes PastEnd t = false

-- After the end field nothing may follow.
abbrev pub past_end : Phase → Bool
past_end Start = false
past_end Amounts = false
past_end Rules = false
past_end PastEnd = true

-- Where the reader stands after a field.
abbrev pub phase_after : ℕ → Phase
phase_after t = cond (t == 1) Amounts (cond (t == 2) Amounts (cond (t == 3) Rules PastEnd))

-- Which lengths fit a tag.
abbrev pub fits : ℕ → ℕ → Bool
fits t n = cond (t == 1) (n == 2) (cond (t == 2) (n == 5) (cond (t == 3) (nat_le n 24) (n == 0)))
