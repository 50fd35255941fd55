-- A case in five numbers.
use Rattle.std.specs.Prelude.{ℕ, max, not, List, length, fold, sum, count_by, ◌==◌}
use Rattle.cases.specs.Meanings.{Meaning, options_of, amounts_of, rules_of}
use Rattle.cases.specs.declared.summary.Summary.{Summary}

-- How many amounts are not 0.
abbrev pub charged : List ℕ → ℕ
charged amounts = count_by (λ a. not (a == 0)) amounts

-- The length of the longest rule, or 0.
abbrev pub longest : List (List ℕ) → ℕ
longest rules = fold (λ n r. max n (length r)) 0 rules

abbrev pub summary_of : Meaning → Summary
summary_of m = record { options = options_of m; amounts = charged (amounts_of m); rules = length (rules_of m); longest = longest (rules_of m); total = sum (amounts_of m) }
