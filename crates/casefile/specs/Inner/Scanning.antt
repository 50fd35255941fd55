-- The judging of a file as the program does it, one field after another: the reader's checks, and then those of the
-- content. That it comes to the same as `parse` is proved in facts/Same.
use Rattle.std.specs.Prelude.{ℕ, zero, suc, ◌*◌, cond, List, [], ◌∷◌, ◌++◌, length, Ok, Err, Result, ◌==◌, nat_le, nat_lt}
use Rattle.cases.specs.Meanings.{Sound}
use Rattle.cases.specs.Limits.{most_options, most_rules}
use Rattle.casefile.specs.declared.field.Phase.{Phase}
use Rattle.casefile.specs.declared.field.Phase.TheVariants.{Start}
use Rattle.casefile.specs.declared.fault.Fault.{Fault}
use Rattle.casefile.specs.declared.fault.Fault.TheVariants.{Truncated, TooManyOptions, NoSuchLiteral, NotRising, ZeroAmount, TooManyRules}
use Rattle.casefile.specs.Files.{below, raised, finished, blank, Outcome, accepted, refused}
use Rattle.casefile.specs.Fields.{Item, options, amount, rule, ended, Given, gave, gave_nothing, faulty, next}

-- What a field adds to what was read, or what is wrong with its content.
abbrev pub judged : Sound → Item → Result Sound Fault
judged s (options n) = cond (nat_lt most_options n) (Err TooManyOptions) (Ok (record { options = n; amounts = []; rules = [] }))
judged s (amount l a) =
    cond (nat_le (2 * s.options) l) (Err NoSuchLiteral)
    (cond (nat_lt l (length s.amounts)) (Err NotRising)
    (cond (a == 0) (Err ZeroAmount) (Ok (record { options = s.options; amounts = raised s.amounts l a; rules = s.rules }))))
judged s (rule ls) =
    cond (nat_le most_rules (length s.rules)) (Err TooManyRules)
    (cond (below (2 * s.options) ls) (Ok (record { options = s.options; amounts = s.amounts; rules = s.rules ++ ls ∷ [] })) (Err NoSuchLiteral))
judged s ended = Ok s

abbrev pub closed : (Sound → Outcome) → ℕ → Result Sound Fault → Outcome
closed k i (Ok t) = k t
closed k i (Err e) = refused e i

-- One field at place i, where k goes on.
abbrev pub step : (Sound → Phase → ℕ → Outcome) → Sound → ℕ → Given → Outcome
step k s i (gave it q j) = closed (λ t. k t q j) i (judged s it)
step k s i (gave_nothing q j) = accepted (finished s)
step k s i (faulty e place q j) = refused e place

abbrev pub scan_from : ℕ → Sound → Phase → List ℕ → ℕ → Outcome
scan_from zero s p xs i = refused Truncated i
scan_from (suc f) s p xs i = step (λ t q j. scan_from f t q xs j) s i (next p xs i)

abbrev pub scan : List ℕ → Outcome
scan xs = scan_from (suc (length xs)) blank Start xs 0
