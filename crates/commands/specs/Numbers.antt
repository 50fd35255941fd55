-- The number that a word writes, and what it is as a budget and as a literal.
use Rattle.std.specs.Prelude.{ℕ, ◌+◌, ◌-◌, ◌*◌, ◌^◌, min, Bool, cond, ◌&&◌, List, [], ◌∷◌, Some, None, Option, nat_le, nat_lt}
use Rattle.std.specs.Option.{option_map}

-- The digits are the bytes 48 to 57.
abbrev pub is_digit : ℕ → Bool
is_digit b = nat_le 48 b && nat_le b 57

-- The number whose digits so far are n, and then those of the word.
abbrev pub digits_after : ℕ → List ℕ → Option ℕ
digits_after n [] = Some n
digits_after n (b ∷ word) = cond (is_digit b) (digits_after (n * 10 + (b - 48)) word) None

-- One or more decimal digits; zeros may lead.
abbrev pub number : List ℕ → Option ℕ
number [] = None
number (b ∷ word) = digits_after 0 (b ∷ word)

abbrev pub within_64_bits : Option ℕ → Option ℕ
within_64_bits None = None
within_64_bits (Some n) = cond (nat_lt n (2 ^ 64)) (Some n) None

-- A budget fits 64 bits.
abbrev pub budget : List ℕ → Option ℕ
budget word = within_64_bits (number word)

-- A literal above 255 is read as 255, which is a literal of no case.
abbrev pub literal : List ℕ → Option ℕ
literal word = option_map (min 255) (number word)

abbrev pub put_first : Option ℕ → Option (List ℕ) → Option (List ℕ)
put_first None more = None
put_first (Some l) None = None
put_first (Some l) (Some more) = Some (l ∷ more)

-- Each word is a literal.
abbrev pub literals : List (List ℕ) → Option (List ℕ)
literals [] = Some []
literals (word ∷ more) = put_first (literal word) (literals more)
