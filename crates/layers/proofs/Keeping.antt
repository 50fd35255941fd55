-- Which rules a set of literals keeps.
use Rattle.std.proofs.Common.{◌≡◌, ℕ, zero, suc, ◌+◌, ◌*◌, ◌/◌, ◌%◌, ◌<◌, Bool, true, false, not, ◌&&◌, ◌||◌, eqb, List, [], ◌∷◌, ◌++◌, length, get_or, sym, refl, ◌∙◌, ap₂, arith}
use mathlib.Core.Bool.{beq}
use Rattle.std.proofs.lemmas.Bool.{and_parts, and_from}
use Rattle.cases.specs.Literals.{Literals}
use Rattle.cases.specs.Choices.{sets, keeps, keeps_all}
use Rattle.cases.proofs.Tests.{beq_true, beq_false}
use Rattle.layers.specs.Apart.{not_together}
use Rattle.layers.specs.Readings.{is_on}

module _ (S : Literals) where
  pub kept_left : (xs ys : List (List ℕ)) → keeps_all S (xs ++ ys) ≡ true → keeps_all S xs ≡ true
  unfolding keeps_all
  kept_left [] ys h = refl
  kept_left (x ∷ xs) ys h = let p = and_parts (keeps S x) (keeps_all S (xs ++ ys)) h in and_from (keeps S x) (keeps_all S xs) p.0 (kept_left xs ys p.1)

  pub kept_right : (xs ys : List (List ℕ)) → keeps_all S (xs ++ ys) ≡ true → keeps_all S ys ≡ true
  unfolding keeps_all
  kept_right [] ys h = h
  kept_right (x ∷ xs) ys h = kept_right xs ys (and_parts (keeps S x) (keeps_all S (xs ++ ys)) h).1

  pub keeps_both : (xs ys : List (List ℕ)) → keeps_all S xs ≡ true → keeps_all S ys ≡ true → keeps_all S (xs ++ ys) ≡ true
  unfolding keeps_all
  keeps_both [] ys h k = k
  keeps_both (x ∷ xs) ys h k = let p = and_parts (keeps S x) (keeps_all S xs) h in and_from (keeps S x) (keeps_all S (xs ++ ys)) p.0 (keeps_both xs ys p.1 k)

  pub kept_at : (xs : List (List ℕ)) → keeps_all S xs ≡ true → (i : ℕ) → i < length xs → keeps S (get_or xs i []) ≡ true
  unfolding keeps_all
  kept_at [] h i l = absurd (omega arith)
  kept_at (x ∷ xs) h zero l = (and_parts (keeps S x) (keeps_all S xs) h).0
  kept_at (x ∷ xs) h (suc i) l = kept_at xs (and_parts (keeps S x) (keeps_all S xs) h).1 i (omega arith)

  pub keeps_each : (xs : List (List ℕ)) → ((i : ℕ) → i < length xs → keeps S (get_or xs i []) ≡ true) → keeps_all S xs ≡ true
  unfolding keeps_all
  keeps_each [] h = refl
  keeps_each (x ∷ xs) h = and_from (keeps S x) (keeps_all S xs) (h 0 (omega arith)) (keeps_each xs (λ i l. h (suc i) (omega arith)))

-- Two sets that agree on the literals of the rules keep the same ones.
module _ (S R : Literals) where
  rule_alike : (x : List ℕ) → ((j : ℕ) → j < length x → S (get_or x j 255) ≡ R (get_or x j 255)) → keeps S x ≡ keeps R x
  unfolding keeps
  rule_alike [] h = refl
  rule_alike (l ∷ x) h = ap₂ (λ (a b : Bool). a || b) (h 0 (omega arith)) (rule_alike x (λ j k. h (suc j) (omega arith)))

  pub kept_alike : (xs : List (List ℕ)) → ((i j : ℕ) → j < length (get_or xs i []) → S (get_or (get_or xs i []) j 255) ≡ R (get_or (get_or xs i []) j 255)) → keeps_all S xs ≡ keeps_all R xs
  unfolding keeps_all
  kept_alike [] h = refl
  kept_alike (x ∷ xs) h = ap₂ (λ (a b : Bool). a && b) (rule_alike x (h 0)) (kept_alike xs (λ i. h (suc i)))

module _ (c : List Bool) where
  pub sets_on : (v : ℕ) → sets c (2 * v) ≡ is_on c v
  unfolding sets
  sets_on v =
      let q : 2 * v / 2 ≡ v = omega arith in
      let r : 2 * v % 2 ≡ 0 = omega arith in
      ap₂ (λ (a b : ℕ). beq (is_on c a) (eqb b 0)) q r ∙ beq_true (is_on c v)

  sets_off : (v : ℕ) → sets c (2 * v + 1) ≡ not (is_on c v)
  unfolding sets
  sets_off v =
      let q : (2 * v + 1) / 2 ≡ v = omega arith in
      let r : (2 * v + 1) % 2 ≡ 1 = omega arith in
      ap₂ (λ (a b : ℕ). beq (is_on c a) (eqb b 0)) q r ∙ beq_false (is_on c v)

  either_off : (a b : ℕ) → keeps (sets c) (not_together a b) ≡ (not (is_on c a) || (not (is_on c b) || false))
  unfolding keeps
  either_off a b = ap₂ (λ (p q : Bool). p || (q || false)) (sets_off a) (sets_off b)

  one_off : (p q : Bool) → (not p || (not q || false)) ≡ true → p ≡ true → q ≡ true → ⊥
  one_off true true h e f = cc
  one_off true false h e f = cc
  one_off false q h e f = cc

  off_one : (p q : Bool) → (p ≡ true → q ≡ true → ⊥) → (not p || (not q || false)) ≡ true
  off_one true true h = absurd (h refl refl)
  off_one true false h = refl
  off_one false q h = refl

  -- The rule that two options are not both on.
  pub kept_apart : (a b : ℕ) → keeps (sets c) (not_together a b) ≡ true → is_on c a ≡ true → is_on c b ≡ true → ⊥
  kept_apart a b h = one_off (is_on c a) (is_on c b) (sym (either_off a b) ∙ h)

  pub apart_kept : (a b : ℕ) → (is_on c a ≡ true → is_on c b ≡ true → ⊥) → keeps (sets c) (not_together a b) ≡ true
  apart_kept a b h = either_off a b ∙ off_one (is_on c a) (is_on c b) h
