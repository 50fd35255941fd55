-- What a choice sets and what a set of literals keeps, from the definitions: a rule as a list against the same rule as a set.
use Rattle.std.proofs.Common.{◌≡◌, ℕ, zero, suc, ◌+◌, ◌*◌, ◌/◌, ◌%◌, ◌<◌, Bool, true, false, not, eqb, ltb, List, [], ◌∷◌, ◌++◌, length, get_or, sym, refl, ap, ◌∙◌, ⊎_elim, not-suc-le-zero, arith}
use mathlib.Core.Bool.{beq}
use Rattle.std.proofs.lemmas.Bool.{or_cases, or_left, or_right, and_parts, and_from, true≢false, ltb-true, eqb-true, eq-eqb}
use Rattle.cases.specs.Literals.{complement, Literals, members}
use Rattle.cases.specs.Choices.{sets, keeps, keeps_all}
use Rattle.cases.proofs.Tests.{beq_true, beq_false}
use Rattle.calculus.specs.Changes.{choice_of}
use Rattle.calculus.specs.Checks.{exist, all_exist}
use Rattle.calculus.proofs.Literals.{complement_half}

flip_side : (b : Bool) (r q : ℕ) → r + q ≡ 1 → beq b (eqb q 0) ≡ not (beq b (eqb r 0))
flip_side b zero q h = let e : q ≡ 1 = omega arith in rw e (side b)
  where
    side : (b : Bool) → beq b false ≡ not (beq b true)
    side true = refl
    side false = refl
flip_side b (suc r) q h = let e : q ≡ 0 = omega arith in let f : r ≡ 0 = omega arith in rw (e, f) (side b)
  where
    side : (b : Bool) → beq b true ≡ not (beq b false)
    side true = refl
    side false = refl

parity : (l : ℕ) → l % 2 + complement l % 2 ≡ 1
unfolding complement
parity l = omega arith

-- a choice sets a literal or its complement, and not both
pub sets_complement : (c : List Bool) (l : ℕ) → sets c (complement l) ≡ not (sets c l)
unfolding sets
sets_complement c l = rw (complement_half l) (flip_side (get_or c (l / 2) false) (l % 2) (complement l % 2) (parity l))

-- the literals of S keep a set of literals: one of them is in S
abbrev pub Kept : ℕ → Literals → Literals → Type 0
Kept n S C = (x : ℕ) × (x < 2 * n) × (C x ≡ true) × (S x ≡ true)

pub kept_by_rule : (n : ℕ) (S : Literals) (r : List ℕ) → exist n r ≡ true → keeps S r ≡ true → Kept n S (members r)
unfolding exist keeps members
kept_by_rule n S [] f k = absurd (true≢false (sym k))
kept_by_rule n S (l ∷ r) f k =
    let g = and_parts (ltb l (2 * n)) (exist n r) f in
    ⊎_elim (λ h. (l, ltb-true l (2 * n) g.0, or_left (eqb l l) (members r l) (eq-eqb l l refl), h))
    (λ h. let ih = kept_by_rule n S r g.1 h in (ih.0, ih.1, or_right (eqb l ih.0) (members r ih.0) ih.2, ih.3))
    (or_cases (S l) (keeps S r) k)

pub rule_by_kept : (S : Literals) (r : List ℕ) (x : ℕ) → members r x ≡ true → S x ≡ true → keeps S r ≡ true
unfolding keeps members
rule_by_kept S [] x h s = absurd (true≢false (sym h))
rule_by_kept S (l ∷ r) x h s =
    ⊎_elim (λ e. or_left (S l) (keeps S r) (rw (eqb-true l x e) s)) (λ e. or_right (S l) (keeps S r) (rule_by_kept S r x e s)) (or_cases (eqb l x) (members r x) h)

-- lists of rules, place by place
pub keeps_at : (S : Literals) (rs : List (List ℕ)) → keeps_all S rs ≡ true → (i : ℕ) → i < length rs → keeps S (get_or rs i []) ≡ true
unfolding keeps_all
keeps_at S [] k i l = absurd (not-suc-le-zero l)
keeps_at S (r ∷ rs) k zero l = (and_parts (keeps S r) (keeps_all S rs) k).0
keeps_at S (r ∷ rs) k (suc i) l = keeps_at S rs (and_parts (keeps S r) (keeps_all S rs) k).1 i (omega arith)

pub keeps_each : (S : Literals) (rs : List (List ℕ)) → ((i : ℕ) → i < length rs → keeps S (get_or rs i []) ≡ true) → keeps_all S rs ≡ true
unfolding keeps_all
keeps_each S [] h = refl
keeps_each S (r ∷ rs) h = and_from (keeps S r) (keeps_all S rs) (h 0 (omega arith)) (keeps_each S rs (λ i l. h (suc i) (omega arith)))

pub keeps-append : (S : Literals) (rs qs : List (List ℕ)) → keeps_all S rs ≡ true → keeps_all S qs ≡ true → keeps_all S (rs ++ qs) ≡ true
unfolding keeps_all
keeps-append S [] qs h k = k
keeps-append S (r ∷ rs) qs h k =
    let g = and_parts (keeps S r) (keeps_all S rs) h in
    and_from (keeps S r) (keeps_all S (rs ++ qs)) g.0 (keeps-append S rs qs g.1 k)

pub keeps_left : (S : Literals) (rs qs : List (List ℕ)) → keeps_all S (rs ++ qs) ≡ true → keeps_all S rs ≡ true
unfolding keeps_all
keeps_left S [] qs h = refl
keeps_left S (r ∷ rs) qs h =
    let g = and_parts (keeps S r) (keeps_all S (rs ++ qs)) h in
    and_from (keeps S r) (keeps_all S rs) g.0 (keeps_left S rs qs g.1)

pub keeps_right : (S : Literals) (rs qs : List (List ℕ)) → keeps_all S (rs ++ qs) ≡ true → keeps_all S qs ≡ true
unfolding keeps_all
keeps_right S [] qs h = h
keeps_right S (r ∷ rs) qs h = keeps_right S rs qs (and_parts (keeps S r) (keeps_all S (rs ++ qs)) h).1

pub exist_at : (n : ℕ) (rs : List (List ℕ)) → all_exist n rs ≡ true → (i : ℕ) → i < length rs → exist n (get_or rs i []) ≡ true
unfolding all_exist
exist_at n [] k i l = absurd (not-suc-le-zero l)
exist_at n (r ∷ rs) k zero l = (and_parts (exist n r) (all_exist n rs) k).0
exist_at n (r ∷ rs) k (suc i) l = exist_at n rs (and_parts (exist n r) (all_exist n rs) k).1 i (omega arith)

pub exist-append : (n : ℕ) (rs qs : List (List ℕ)) → all_exist n rs ≡ true → all_exist n qs ≡ true → all_exist n (rs ++ qs) ≡ true
unfolding all_exist
exist-append n [] qs h k = k
exist-append n (r ∷ rs) qs h k =
    let g = and_parts (exist n r) (all_exist n rs) h in
    and_from (exist n r) (all_exist n (rs ++ qs)) g.0 (exist-append n rs qs g.1 k)

-- the choice of a set of literals
pub length-choice : (n : ℕ) (S : Literals) → length (choice_of n S) ≡ n
unfolding choice_of
length-choice zero S = refl
length-choice (suc n) S = ap suc (length-choice n (λ x. S (2 + x)))

pub choice_at : (n v : ℕ) (S : Literals) → v < n → get_or (choice_of n S) v false ≡ S (2 * v)
unfolding choice_of
choice_at zero v S l = absurd (not-suc-le-zero l)
choice_at (suc n) zero S l = refl
choice_at (suc n) (suc v) S l =
    let e : 2 + 2 * v ≡ 2 * suc v = omega arith in
    choice_at n v (λ x. S (2 + x)) (omega arith) ∙ ap S e

even_literal : (l : ℕ) → l % 2 ≡ 0 → 2 * (l / 2) ≡ l
even_literal l e = omega arith

odd_literal : (l : ℕ) → l % 2 ≡ 1 → l ≡ complement (2 * (l / 2))
unfolding complement
odd_literal l e = omega arith

-- a set that holds just one of each literal and its complement is what its choice sets
pub sets_choice : (n : ℕ) (S : Literals) → ((l : ℕ) → l < 2 * n → S (complement l) ≡ not (S l)) → (l : ℕ) → l < 2 * n → sets (choice_of n S) l ≡ S l
unfolding sets
sets_choice n S h l r = go (l % 2) refl
  where
    go : (k : ℕ) → l % 2 ≡ k → beq (get_or (choice_of n S) (l / 2) false) (eqb (l % 2) 0) ≡ S l
    go zero e = rw (e, choice_at n (l / 2) S (omega arith), beq_true) (ap S (even_literal l e))
    go (suc k) e =
        let z : l % 2 ≡ 1 = omega arith in
        rw (z, choice_at n (l / 2) S (omega arith), beq_false) (sym (h (2 * (l / 2)) (omega arith)) ∙ ap S (sym (odd_literal l z)))
