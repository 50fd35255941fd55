-- A pile is within the limits where a test of its lists says so; from the definition of the limits.
use Rattle.std.proofs.Common.{◌≡◌, ℕ, zero, suc, ◌*◌, ◌^◌, ◌<◌, ◌≤◌, Bool, true, ◌&&◌, eqb, ltb, leb, List, [], ◌∷◌, map, length, get_or, subst, ⊎_elim, arith}
use lib.ListN.{get_or-map, get_or-eq_default}
use Rattle.std.proofs.lemmas.Bool.{and_parts, cases_lt, ltb-true, leb-true, eqb-true}
use Rattle.cases.specs.Meanings.{Sound, sound}
use Rattle.cases.specs.Limits.{most_options, most_rules, longest_rule, Limited}
use Rattle.calculus.specs.Checks.{all_exist}
use Rattle.calculus.proofs.Choices.{exist_at}
use Rattle.calculus.proofs.Rules.{exist_place}

-- every number of the list is below k
unfoldable pub all_below : ℕ → List ℕ → Bool
all_below k [] = true
all_below k (x ∷ xs) = ltb x k && all_below k xs

below_at : (k d : ℕ) (xs : List ℕ) → all_below k xs ≡ true → d < k → (i : ℕ) → get_or xs i d < k
unfolding all_below
below_at k d [] h l i = l
below_at k d (x ∷ xs) h l zero = ltb-true x k (and_parts (ltb x k) (all_below k xs) h).0
below_at k d (x ∷ xs) h l (suc i) = below_at k d xs (and_parts (ltb x k) (all_below k xs) h).1 l i

unfoldable pub within : Sound → Bool
within m =
    (leb m.options most_options && leb (length m.rules) most_rules)
    && ((all_below (suc longest_rule) (map length m.rules) && all_exist m.options m.rules) && (eqb (length m.amounts) (2 * m.options) && all_below (2 ^ 32) m.amounts))

pub limited_by : (m : Sound) → within m ≡ true → Limited (sound m)
unfolding within
limited_by m h =
    let n = m.options in
    let w = and_parts (leb n most_options && leb (length m.rules) most_rules) _ h in
    let few = and_parts (leb n most_options) (leb (length m.rules) most_rules) w.0 in
    let rest = and_parts (all_below (suc longest_rule) (map length m.rules) && all_exist n m.rules) _ w.1 in
    let rules = and_parts (all_below (suc longest_rule) (map length m.rules)) (all_exist n m.rules) rest.0 in
    let amounts = and_parts (eqb (length m.amounts) (2 * n)) (all_below (2 ^ 32) m.amounts) rest.1 in
    record {
      few_options = leb-true n most_options few.0;
      few_rules = leb-true (length m.rules) most_rules few.1;
      short_rules =
          λ r.
          let l : get_or (map length m.rules) r 0 < suc longest_rule = below_at (suc longest_rule) 0 (map length m.rules) rules.0 (omega arith) r in
          omega (arith, get_or-map length m.rules r []);
      literals_exist = known m.rules rules.1;
      amount_each = eqb-true (length m.amounts) (2 * n) amounts.0;
      small_amounts = below_at (2 ^ 32) 0 m.amounts amounts.1 (omega arith);
    }
  where
    known : (rs : List (List ℕ)) → all_exist m.options rs ≡ true → (r j : ℕ) → j < length (get_or rs r []) → get_or (get_or rs r []) j 255 < 2 * m.options
    known rs e r j l =
        ⊎_elim (λ (k : r < length rs). exist_place m.options (get_or rs r []) j 255 (exist_at m.options rs e r k) l)
        (λ (k : length rs ≤ r). let z : j < 0 = subst (λ (x : List ℕ). j < length x) (get_or-eq_default rs [] k) l in absurd (omega arith))
        (cases_lt r (length rs))
