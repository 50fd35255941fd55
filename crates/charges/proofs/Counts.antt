-- How often a literal stands in a list, from the definition of `count` alone.
use Rattle.std.proofs.Common.{◌≡◌, ℕ, ◌+◌, ◌*◌, ◌<◌, ◌≤◌, true, false, cond, eqb, List, [], ◌∷◌, refl, ⊎_elim, arith}
use Rattle.std.proofs.lemmas.Bool.{cases_Bool, eq-eqb, eqb-true}
use Rattle.cases.specs.Literals.{members}
use Rattle.charges.specs.Charges.{count, Once}

pub count_here : (l : ℕ) (ls : List ℕ) → count l (l ∷ ls) ≡ 1 + count l ls
unfolding count
count_here l ls = rw (eq-eqb l l refl)

-- another literal in front
pub count_past : (l k : ℕ) (ks : List ℕ) → eqb k l ≡ false → count l (k ∷ ks) ≡ count l ks
unfolding count
count_past l k ks e = rw e (omega arith)

pub count_more : (x l : ℕ) (ls : List ℕ) → count x ls ≤ count x (l ∷ ls)
unfolding count
count_more x l ls = omega arith

-- what stands nowhere in a list is no member of it
pub no_member : (x : ℕ) (ls : List ℕ) → count x ls ≡ 0 → members ls x ≡ false
unfolding count members
no_member x [] h = refl
no_member x (l ∷ ls) h =
    ⊎_elim (λ (e : eqb l x ≡ true). absurd (let n = rw e at h in omega arith)) (λ (e : eqb l x ≡ false). rw e (no_member x ls (omega arith))) (cases_Bool (eqb l x))

-- a list without the first place at which l stands
unfoldable pub without : ℕ → List ℕ → List ℕ
without l [] = []
without l (k ∷ ks) = cond (eqb k l) ks (k ∷ without l ks)

-- put back in front, it counts as before
pub count_without : (l : ℕ) (ks : List ℕ) → 0 < count l ks → (x : ℕ) → count x ks ≡ count x (l ∷ without l ks)
unfolding count without
count_without l [] h x = absurd (omega arith)
count_without l (k ∷ ks) h x =
    ⊎_elim (λ (e : eqb k l ≡ true). let same = eqb-true k l e in rw (e, same))
    (λ (e : eqb k l ≡ false). rw e (omega (arith, count_without l ks (omega (arith, count_past l k ks e)) x)))
    (cases_Bool (eqb k l))

pub none_counted : (ls : List ℕ) → ((l : ℕ) → count l ls ≡ 0) → ls ≡ []
none_counted [] h = refl
none_counted (l ∷ ls) h = absurd (omega (arith, h l, count_here l ls))

module _ (options l : ℕ) (ls : List ℕ) (once : Once options (l ∷ ls)) where
  pub head_exists : l < 2 * options
  head_exists = once.exist l (omega (arith, count_here l ls))

  pub head_new : members ls l ≡ false
  head_new = no_member l ls (omega (arith, count_here l ls, once.at_most_once l))

  pub tail_once : Once options ls
  tail_once = record {
    at_most_once = λ x. omega (arith, count_more x l ls, once.at_most_once x);
    exist = λ x h. once.exist x (omega (arith, count_more x l ls));
  }
