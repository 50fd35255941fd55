-- A case as bytes, and what the writer answers and leaves.
use Rattle.std.specs.Prelude.{ℕ, ◌+◌, ◌/◌, ◌%◌, cond, List, [], ◌∷◌, ◌++◌, length, drop, Ok, Err, Result, ◌==◌, nat_lt}
use Rattle.std.specs.List.{flat_map}
use Rattle.cases.specs.Meanings.{Sound, Meaning, oversize, sound, options_of, amounts_of, rules_of}
use Rattle.cases.specs.declared.refusal.Refusal.{Refusal}
use Rattle.cases.specs.declared.refusal.Refusal.TheVariants.{Oversize, ShortBuffer}

-- A field with tag t. No content is longer than 255 bytes, so the length's high byte is 0.
abbrev pub field : ℕ → List ℕ → List ℕ
field t content = t ∷ (0 ∷ (length content ∷ content))

abbrev pub options_field : ℕ → List ℕ
options_field n = field 1 (n / 256 ∷ n % 256 ∷ [])

abbrev pub amount_field : ℕ → ℕ → List ℕ
amount_field l a = field 2 (l ∷ a / 16777216 ∷ (a / 65536) % 256 ∷ (a / 256) % 256 ∷ a % 256 ∷ [])

-- The amount of literal l, where it is not 0.
abbrev pub charge_field : ℕ → ℕ → List ℕ
charge_field l a = cond (a == 0) [] (amount_field l a)

-- The amounts of the literals from l on.
abbrev pub amount_fields : ℕ → List ℕ → List ℕ
amount_fields l [] = []
amount_fields l (a ∷ more) = charge_field l a ++ amount_fields (l + 1) more

abbrev pub rule_fields : List (List ℕ) → List ℕ
rule_fields rs = flat_map (field 3) rs

abbrev pub end_field : List ℕ
end_field = field 4 []

-- The options, the amounts that are not 0, the rules, the end.
abbrev pub encode : Sound → List ℕ
encode s = options_field s.options ++ (amount_fields 0 s.amounts ++ (rule_fields s.rules ++ end_field))

-- The same of what any case tells.
abbrev pub encode_told : Meaning → List ℕ
encode_told m = options_field (options_of m) ++ (amount_fields 0 (amounts_of m) ++ (rule_fields (rules_of m) ++ end_field))

-- What a writer of these bytes answers, given the buffer: the length, unless the buffer is too short.
abbrev pub fitted : List ℕ → List ℕ → Result ℕ Refusal
fitted bytes old = cond (nat_lt (length old) (length bytes)) (Err ShortBuffer) (Ok (length bytes))

-- And what the buffer then holds: the bytes and after them what was there, or all that was there.
abbrev pub filled : List ℕ → List ℕ → List ℕ
filled bytes old = cond (nat_lt (length old) (length bytes)) old (bytes ++ drop (length bytes) old)

-- The writer on any case.
abbrev pub written : Meaning → List ℕ → Result ℕ Refusal
written oversize old = Err Oversize
written (sound s) old = fitted (encode s) old

abbrev pub buffer_after : Meaning → List ℕ → List ℕ
buffer_after oversize old = old
buffer_after (sound s) old = filled (encode s) old
