use Rattle.std.proofs.Common.{◌≡◌, ℕ, ◌<◌, ◌≤◌, Bool, true, false, length, Some, None, Option, MatchOption, rules, tests, arith}
use Rattle.std.proofs.lemmas.Iterator.{first_from_Range}
use Rattle.literals.specs.Members.{member}
use Rattle.tables.specs.Learned.{rows_of}
use Rattle.rules.specs.Force.{row}
use Rattle.rules.specs.Scans.{misses, FirstOf}
use Rattle.rules.proofs.scan.missing_row.Goals as goal

-- the first number of a range that passes the test p
first_told : (p : ℕ → Bool) (n k : ℕ) → k ≡ n → (o : Option ℕ)
    → MatchOption o ((q : ℕ) → 0 ≤ q → q < k → p q ≡ false) (λ i. (0 ≤ i) × (i < k) × (p i ≡ true) × ((q : ℕ) → 0 ≤ q → q < i → p q ≡ false)) → FirstOf p n o
first_told p n k e None h = λ q l. h q (omega arith) (omega arith)
first_told p n k e (Some i) h = (omega (arith, h.1), (λ q l. h.3 q (omega arith) l), h.2)

pub returns : goal.returns
returns c =
    let p = λ (q : ℕ). misses (member c.args.set.now) (row c.args.learned.now q) in
    first_told p (length (rows_of c.args.learned.now)) c.len.result c.len.ensures.answers c.find.result
    (first_from_Range _ _ _ c.find.result (λ q. p q ≡ true) (λ q. p q ≡ false) c.find.ensures.ran (λ x q k. search (rules, tests)) (λ x q k. search (rules, tests)))
