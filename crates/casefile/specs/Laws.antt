-- The round trip, said of every case and every byte string.
use Rattle.std.specs.Prelude.{◌≡◌, ℕ, true, ◌↔◌, List, [], ◌∷◌, take, Ok, Err, Result}
use Rattle.cases.specs.Meanings.{Sound, Meaning, oversize, sound}
use Rattle.cases.specs.Limits.{Limited}
use Rattle.cases.specs.declared.refusal.Refusal.{Refusal}
use Rattle.casefile.specs.declared.fault.FileRefusal.{FileRefusal}
use Rattle.casefile.specs.declared.file.FileCase.{FileCase}
use Rattle.casefile.specs.Format.{Octets}
use Rattle.casefile.specs.Files.{parse, accepted, refused, is_accepted}
use Rattle.casefile.specs.Bytes.{encode}

pub record RoundTrip : Type 0 where
  -- a written case reads back with equal meaning
  pub reads_back : (m : Sound) → Limited (sound m) → parse (encode m) ≡ accepted m
  -- an accepted file written again has equal bytes
  pub same_again : (xs : List ℕ) (m : Sound) → Octets xs → parse xs ≡ accepted m → encode m ≡ xs
  -- a byte string is the case file of m exactly if it is what is written of m, and m keeps the limits
  pub exactly : (xs : List ℕ) (m : Sound) → Octets xs → (parse xs ≡ accepted m) ↔ (Limited (sound m) × (encode m ≡ xs))

-- What a writer leaves in the buffer, up to the length that it answers, reads back as the case's meaning.
abbrev pub Readable : Meaning → Result ℕ Refusal → List ℕ → Type 0
Readable oversize r new = Unit {0}
Readable (sound s) (Ok n) new = parse (take n new) ≡ accepted s
Readable (sound s) (Err e) new = Unit {0}

-- The file of no options and no rules.
abbrev pub empty_file : List ℕ
empty_file = 1 ∷ 0 ∷ 2 ∷ 0 ∷ 0 ∷ 4 ∷ 0 ∷ 0 ∷ []

-- What opening xs answers: a case over the same bytes, where the file is accepted; or the refusal.
abbrev pub Opened : List ℕ → Result FileCase FileRefusal → Type 0
Opened xs (Ok x) = (x.bytes.now ≡ xs) × (is_accepted (parse xs) ≡ true)
Opened xs (Err r) = parse xs ≡ refused r.fault r.place
