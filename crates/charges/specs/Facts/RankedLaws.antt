-- Ranked keeps the laws of a kind, by arithmetic on its numbers.
use Rattle.std.specs.Prelude.{◌≡◌, ℕ, ◌+◌, ◌-◌, ◌*◌, ◌^◌, ◌<◌, ◌≤◌, min, true, ◌&&◌, ◌⊎◌, ◌==◌, nat_le, nat_lt, refl}
use Rattle.std.proofs.Common.{inl, inr, ⊎_elim, arith}
use Rattle.std.proofs.lemmas.Bool.{ltb-true, leb-true, lt-ltb, le-leb, lt-leb, cases_lt, and_parts, and_from, or_cases, or_left, or_right, eqb-true, eq-eqb}
use Rattle.charges.specs.Kinds.{Laws}
use Rattle.charges.specs.RankedKind.{ranked_of, ranked_sum, ranked_not_above, ranked_kind}
use Rattle.charges.specs.declared.kinds.Ranked.{Ranked}
use Rattle.charges.specs.Facts.Same.{ranked_same}

-- both parts as one number of 64 bits, which is compared as they are
abbrev as_one : Ranked → ℕ
as_one a = a.lost * 2 ^ 32 + a.pence

not_above_one : (a b : Ranked) → ranked_not_above a b ≡ true → as_one a ≤ as_one b
not_above_one a b h =
    ⊎_elim (λ q. let l = ltb-true a.lost b.lost q in omega (arith, a.pence_fits))
    (λ q.
    let w = and_parts (a.lost == b.lost) (nat_le a.pence b.pence) q in
    let l = eqb-true a.lost b.lost w.0 in
    let p = leb-true a.pence b.pence w.1 in
    omega arith)
    (or_cases (nat_lt a.lost b.lost) (a.lost == b.lost && nat_le a.pence b.pence) h)

one_not_above : (a b : Ranked) → as_one a ≤ as_one b → ranked_not_above a b ≡ true
one_not_above a b h =
    ⊎_elim (λ (l : a.lost < b.lost). or_left _ _ (lt-ltb a.lost b.lost l))
    (λ (l : b.lost ≤ a.lost).
    let e : a.lost ≡ b.lost = omega (arith, b.pence_fits) in
    or_right _ _ (and_from _ _ (eq-eqb a.lost b.lost e) (le-leb a.pence b.pence (omega arith))))
    (cases_lt a.lost b.lost)

-- c is the sum of a and b, in its two cases
abbrev Adds : (a b c : Ranked) → Type 0
Adds a b c =
    ((a.lost + b.lost ≤ 2 ^ 32 - 1) × (c.lost ≡ a.lost + b.lost) × (c.pence ≡ min (a.pence + b.pence) (2 ^ 32 - 1)))
    ⊎ ((2 ^ 32 - 1 < a.lost + b.lost) × (c.lost ≡ 2 ^ 32 - 1) × (c.pence ≡ 2 ^ 32 - 1))

adds : (a b : Ranked) → Adds a b (ranked_sum a b)
unfolding ranked_of
adds a b =
    ⊎_elim (λ (h : 2 ^ 32 - 1 < a.lost + b.lost). let e = lt-leb (a.lost + b.lost) (2 ^ 32 - 1) h in inr (h, rw e, rw e))
    (λ (h : a.lost + b.lost ≤ 2 ^ 32 - 1). let e = le-leb (a.lost + b.lost) (2 ^ 32 - 1) h in inl (h, rw e (omega arith), rw e (omega arith)))
    (cases_lt (2 ^ 32 - 1) (a.lost + b.lost))

sum_regroups : (a b c ab bc u v : Ranked) → Adds a b ab → Adds b c bc → Adds ab c u → Adds a bc v → u ≡ v
sum_regroups a b c ab bc u v p q l r = ranked_same u v (omega arith) (omega arith)

sum_rises : (a b c u v : Ranked) → Adds a c u → Adds b c v → as_one a ≤ as_one b → as_one u ≤ as_one v
sum_rises a b c u v p q l = omega arith

pub ranked_laws : Laws ranked_kind
unfolding ranked_of
ranked_laws =
    record {
      total = λ a b. ⊎_elim (λ (l : as_one a < as_one b). inl (one_not_above a b (omega arith))) (λ (l : as_one b ≤ as_one a). inr (one_not_above b a l)) (cases_lt (as_one a) (as_one b));
      transitive = λ a b c p q. one_not_above a c (omega (arith, not_above_one a b p, not_above_one b c q));
      associative =
          λ a b c.
          let ab = ranked_sum a b in
          let bc = ranked_sum b c in
          sum_regroups a b c ab bc (ranked_sum ab c) (ranked_sum a bc) (adds a b) (adds b c) (adds ab c) (adds a bc);
      commutative = λ a b. let ab = adds a b in let ba = adds b a in ranked_same (ranked_sum a b) (ranked_sum b a) (omega arith) (omega arith);
      neutral = λ a. let s = adds a (ranked_of 0 0) in ranked_same (ranked_sum a (ranked_of 0 0)) a (omega arith) (omega arith);
      least = λ a. one_not_above (ranked_of 0 0) a (omega arith);
      monotone = λ a b c p. one_not_above (ranked_sum a c) (ranked_sum b c) (sum_rises a b c (ranked_sum a c) (ranked_sum b c) (adds a c) (adds b c) (not_above_one a b p));
      free = refl;
    }
