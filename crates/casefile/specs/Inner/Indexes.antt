-- What the index of a file says of it.
use Rattle.std.specs.Prelude.{◌≡◌, ℕ, ◌+◌, ◌*◌, ◌<◌, ◌≤◌, true, List, [], length, get_or, Ok, Err, Result, slice_index, slice_index_or}
use Rattle.cases.specs.Meanings.{Sound}
use Rattle.casefile.specs.declared.index.Index.{Index}
use Rattle.casefile.specs.declared.fault.Fault.{Fault}
use Rattle.casefile.specs.declared.fault.FileRefusal.{FileRefusal}
use Rattle.casefile.specs.declared.field.Phase.{Phase}
use Rattle.casefile.specs.declared.field.Phase.TheVariants.{Start, Amounts, Rules, PastEnd}
use Rattle.casefile.specs.Files.{parse, refused, is_accepted, meant}
use Rattle.casefile.specs.Fields.{Item, options, amount, rule, ended}

-- The index has the amount of every literal.
abbrev pub Priced : Index → Sound → Type 0
Priced ix s = (l : ℕ) → slice_index ix.amounts l ≡ slice_index s.amounts l

-- The field of rule r lies in the file at its place, and has the rule's length and literals there.
abbrev pub Inside : List ℕ → Index → Sound → Type 0
Inside xs ix s = (r : ℕ) → r < ix.rules → slice_index ix.places r + 3 + length (slice_index_or s.rules r []) ≤ length xs

abbrev pub Sized : List ℕ → Index → Sound → Type 0
Sized xs ix s = (r : ℕ) → r < ix.rules → slice_index xs (slice_index ix.places r + 2) ≡ length (slice_index_or s.rules r [])

abbrev pub Same : List ℕ → Index → Sound → Type 0
Same xs ix s = (r j : ℕ) → j < length (slice_index_or s.rules r []) → slice_index xs (slice_index ix.places r + 3 + j) ≡ slice_index_or (slice_index_or s.rules r []) j 255

pub record Shows (xs : List ℕ) (ix : Index) (s : Sound) : Type 0 where
  pub counted : ix.options ≡ s.options
  pub ruled : ix.rules ≡ length s.rules
  pub priced : Priced ix s
  pub inside : Inside xs ix s
  pub sized : Sized xs ix s
  pub same : Same xs ix s

-- It shows what was read so far, and its floor is the first literal that may still be given an amount.
abbrev pub Follows : List ℕ → Index → Sound → Type 0
Follows xs ix s = Shows xs ix s × (ix.floor ≡ length s.amounts)

-- The field of a rule stands at place i.
pub record Placed (xs : List ℕ) (i : ℕ) (ls : List ℕ) : Type 0 where
  pub inside : i + 3 + length ls ≤ length xs
  pub sized : get_or xs (i + 2) 0 ≡ length ls
  pub same : (j : ℕ) → j < length ls → slice_index xs (i + 3 + j) ≡ slice_index_or ls j 255

abbrev pub Stands : List ℕ → ℕ → Item → Type 0
Stands xs i (options n) = Unit {0}
Stands xs i (amount l a) = Unit {0}
Stands xs i (rule ls) = Placed xs i ls
Stands xs i ended = Unit {0}

-- What the index answers to a field and then holds, by what is judged of the field.
abbrev pub Noted : List ℕ → Result Sound Fault → Result (Unit {0}) Fault → Index → Type 0
Noted xs (Ok t) (Ok u) ix = Follows xs ix t
Noted xs (Ok t) (Err e) ix = ⊥
Noted xs (Err f) (Ok u) ix = ⊥
Noted xs (Err f) (Err e) ix = f ≡ e

-- How far a file can have been read by then.
abbrev pub Reach : Phase → Sound → ℕ → Type 0
Reach Start s i = i ≡ 0
Reach Amounts s i = i ≤ 5 + 8 * length s.amounts + 27 * length s.rules
Reach Rules s i = i ≤ 5 + 8 * length s.amounts + 27 * length s.rules
Reach PastEnd s i = Unit {0}

-- What judging a file answers: an index that shows its meaning, or the refusal.
abbrev pub Judged : List ℕ → Result Index FileRefusal → Type 0
Judged xs (Ok ix) = (is_accepted (parse xs) ≡ true) × Shows xs ix (meant (parse xs))
Judged xs (Err r) = parse xs ≡ refused r.fault r.place
