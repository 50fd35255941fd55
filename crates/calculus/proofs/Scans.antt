-- What `any`, `first`, `count` and `greatest` say of the numbers below a bound, and `place` and `remove` of a list, from their definitions.
use Rattle.std.proofs.Common.{◌≡◌, ℕ, zero, suc, ◌+◌, ◌<◌, ◌≤◌, max, Bool, true, false, cond, not, ◌⊎◌, List, [], ◌∷◌, ◌++◌, length, get_or, sym, refl, ap, ◌∙◌, subst, inl, inr, ⊎_elim, le_of_suc-le-suc, not-suc-le-zero, suc-add, zero-add, arith}
use mathlib.Core.Option.{Option, none, some}
use Rattle.std.proofs.lemmas.Bool.{both_ways, cases_Bool, or_cases, or_left, or_right, true≢false, cases_lt}
use Rattle.calculus.specs.Scans.{any, first, count, greatest, later, place, remove}

pub any_yes : (k : ℕ) (p : ℕ → Bool) (x : ℕ) → x < k → p x ≡ true → any k p ≡ true
unfolding any
any_yes zero p x h e = absurd (not-suc-le-zero h)
any_yes (suc k) p zero h e = or_left (p 0) (any k (λ y. p (suc y))) e
any_yes (suc k) p (suc x) h e = or_right (p 0) (any k (λ y. p (suc y))) (any_yes k (λ y. p (suc y)) x (le_of_suc-le-suc h) e)

pub any_no : (k : ℕ) (p : ℕ → Bool) → any k p ≡ false → (x : ℕ) → x < k → p x ≡ false
any_no k p e x h = ⊎_elim (λ t. absurd (both_ways (any k p) e (any_yes k p x h t))) (λ f. f) (cases_Bool (p x))

-- the first that passes is below the bound and passes
pub first_yes : (k : ℕ) (p : ℕ → Bool) → any k p ≡ true → (first k p < k) × (p (first k p) ≡ true)
unfolding any first
first_yes zero p e = absurd (true≢false (sym e))
first_yes (suc k) p e =
    ⊎_elim (λ h. rw h (omega arith, h))
    (λ h.
    let ih = first_yes k (λ y. p (suc y)) (⊎_elim (λ t. absurd (both_ways (p 0) h t)) (λ t. t) (or_cases (p 0) (any k (λ y. p (suc y))) e)) in
    rw h (omega (arith, ih.0), ih.1))
    (cases_Bool (p 0))

-- and no lower one does
pub first_lowest : (k : ℕ) (p : ℕ → Bool) (x : ℕ) → x < first k p → p x ≡ false
unfolding first
first_lowest zero p x l = absurd (not-suc-le-zero l)
first_lowest (suc k) p zero l =
    ⊎_elim (λ h. let z : zero < cond (p 0) 0 (suc (first k (λ y. p (suc y)))) = l in absurd (omega (arith, rw h at z))) (λ h. h) (cases_Bool (p 0))
first_lowest (suc k) p (suc x) l =
    ⊎_elim (λ h. let z : suc x < cond (p 0) 0 (suc (first k (λ y. p (suc y)))) = l in absurd (omega (arith, rw h at z)))
    (λ h. let z : suc x < cond (p 0) 0 (suc (first k (λ y. p (suc y)))) = l in first_lowest k (λ y. p (suc y)) x (omega (arith, rw h at z)))
    (cases_Bool (p 0))

pub any_some : (k : ℕ) (p : ℕ → Bool) → any k p ≡ true → (x : ℕ) × (x < k) × (p x ≡ true)
any_some k p e = let h = first_yes k p e in (first k p, h.0, h.1)

-- one number below the bound, as 1 or 0
pub bit_le : (b : Bool) → cond b 1 0 ≤ 1
bit_le true = omega arith
bit_le false = omega arith

pub count_le : (k : ℕ) (p : ℕ → Bool) → count k p ≤ k
unfolding count
count_le zero p = omega arith
count_le (suc k) p = omega (arith, bit_le (p 0), count_le k (λ y. p (suc y)))

pub count_same : (k : ℕ) (p q : ℕ → Bool) → ((x : ℕ) → x < k → p x ≡ q x) → count k p ≡ count k q
unfolding count
count_same zero p q h = refl
count_same (suc k) p q h =
    let e = h 0 (omega arith) in
    rw e (ap (λ (z : ℕ). cond (q 0) 1 0 + z) (count_same k (λ y. p (suc y)) (λ y. q (suc y)) (λ x l. h (suc x) (omega arith))))

-- q passes what p does, and x besides
pub count_besides : (k : ℕ) (p q : ℕ → Bool) (x : ℕ) → x < k → p x ≡ false → q x ≡ true → ((y : ℕ) → y < k → (y ≡ x → ⊥) → p y ≡ q y) → count k q ≡ suc (count k p)
unfolding count
count_besides zero p q x l ep eq h = absurd (not-suc-le-zero l)
count_besides (suc k) p q zero l ep eq h =
    let e = count_same k (λ y. p (suc y)) (λ y. q (suc y)) (λ y m. h (suc y) (omega arith) (omega arith)) in
    rw (ep, eq) (omega arith)
count_besides (suc k) p q (suc x) l ep eq h =
    let e = h 0 (omega arith) (omega arith) in
    let ih = count_besides k (λ y. p (suc y)) (λ y. q (suc y)) x (omega arith) ep eq (λ y m n. h (suc y) (omega arith) (λ z. n (omega arith))) in
    rw e (omega arith)

-- q passes no more than p does, and x besides
pub count_grow : (k : ℕ) (p q : ℕ → Bool) (x : ℕ) → ((y : ℕ) → y < k → (y ≡ x → ⊥) → p y ≡ q y) → count k q ≤ suc (count k p)
unfolding count
count_grow zero p q x h = omega arith
count_grow (suc k) p q zero h =
    let e = count_same k (λ y. p (suc y)) (λ y. q (suc y)) (λ y m. h (suc y) (omega arith) (omega arith)) in
    omega (arith, bit_le (q 0))
count_grow (suc k) p q (suc x) h =
    let e = h 0 (omega arith) (omega arith) in
    let ih = count_grow k (λ y. p (suc y)) (λ y. q (suc y)) x (λ y m n. h (suc y) (omega arith) (λ z. n (omega arith))) in
    rw e (omega arith)

pub count_none : (k : ℕ) (p : ℕ → Bool) → ((x : ℕ) → x < k → p x ≡ false) → count k p ≡ 0
unfolding count
count_none zero p h = refl
count_none (suc k) p h =
    let e = h 0 (omega arith) in
    let ih = count_none k (λ y. p (suc y)) (λ x l. h (suc x) (omega arith)) in
    rw e (omega arith)

pub count_zero : (k : ℕ) (p : ℕ → Bool) → count k p ≡ 0 → (x : ℕ) → x < k → p x ≡ false
unfolding count
count_zero zero p e x l = absurd (not-suc-le-zero l)
count_zero (suc k) p e zero l =
    ⊎_elim (λ h. let z : cond (p 0) 1 0 + count k (λ y. p (suc y)) ≡ 0 = e in absurd (omega (arith, rw h at z))) (λ h. h) (cases_Bool (p 0))
count_zero (suc k) p e (suc x) l = count_zero k (λ y. p (suc y)) (omega arith) x (omega arith)

-- the first is the only one that passes
pub count_one : (k : ℕ) (p : ℕ → Bool) → count k p ≡ 1 → (first k p < k) × (p (first k p) ≡ true) × ((x : ℕ) → x < k → p x ≡ true → x ≡ first k p)
unfolding count first
count_one zero p e = absurd (omega arith)
count_one (suc k) p e =
    ⊎_elim
    (λ h.
    let z : count k (λ y. p (suc y)) ≡ 0 = omega (arith, rw h at e) in
    rw h (omega arith, h, λ x l t. only x l t z))
    (λ h.
    let z : count k (λ y. p (suc y)) ≡ 1 = omega (arith, rw h at e) in
    let ih = count_one k (λ y. p (suc y)) z in
    rw h (omega (arith, ih.0), ih.1, λ x l t. other x l t h ih.2))
    (cases_Bool (p 0))
  where
    only : (x : ℕ) → x < suc k → p x ≡ true → count k (λ y. p (suc y)) ≡ 0 → x ≡ 0
    only zero l t z = refl
    only (suc x) l t z = absurd (both_ways (p (suc x)) (count_zero k (λ y. p (suc y)) z x (omega arith)) t)

    other : (x : ℕ) → x < suc k → p x ≡ true → p 0 ≡ false → ((y : ℕ) → y < k → p (suc y) ≡ true → y ≡ first k (λ z. p (suc z))) → x ≡ suc (first k (λ z. p (suc z)))
    other zero l t h f = absurd (both_ways (p 0) h t)
    other (suc x) l t h f = ap suc (f x (omega arith) t)

-- x is the only one that passes
pub count_only : (k : ℕ) (p : ℕ → Bool) (x : ℕ) → x < k → p x ≡ true → ((y : ℕ) → y < k → p y ≡ true → y ≡ x) → count k p ≡ 1
count_only k p x l t h =
    count_besides k (λ _. false) p x l refl t (λ y m n. sym (⊎_elim (λ u. absurd (n (h y m u))) (λ f. f) (cases_Bool (p y))))
    ∙ ap suc (count_none k (λ _. false) (λ _ _. refl))

-- fewer than k pass, so one below k does not
pub some_fails : (k : ℕ) (p : ℕ → Bool) → count k p < k → any k (λ x. not (p x)) ≡ true
unfolding count any
some_fails zero p l = absurd (not-suc-le-zero l)
some_fails (suc k) p l =
    ⊎_elim
    (λ h.
    or_right (not (p 0)) (any k (λ x. not (p (suc x))))
    (some_fails k (λ y. p (suc y)) (let z : cond (p 0) 1 0 + count k (λ y. p (suc y)) < suc k = l in omega (arith, rw h at z))))
    (λ h. or_left (not (p 0)) (any k (λ x. not (p (suc x)))) (ap not h))
    (cases_Bool (p 0))

pub greatest_above : (k : ℕ) (p : ℕ → Bool) (f : ℕ → ℕ) (x : ℕ) → x < k → p x ≡ true → f x ≤ greatest k p f
unfolding greatest
greatest_above zero p f x l t = absurd (not-suc-le-zero l)
greatest_above (suc k) p f zero l t = rw t (omega arith)
greatest_above (suc k) p f (suc x) l t =
    let ih = greatest_above k (λ y. p (suc y)) (λ y. f (suc y)) x (omega arith) t in
    omega arith

pub greatest_reached : (k : ℕ) (p : ℕ → Bool) (f : ℕ → ℕ) → (greatest k p f ≡ 0) ⊎ ((x : ℕ) × (x < k) × (p x ≡ true) × (f x ≡ greatest k p f))
unfolding greatest
greatest_reached zero p f = inl refl
greatest_reached (suc k) p f = go (p 0) refl (greatest_reached k (λ y. p (suc y)) (λ y. f (suc y)))
  where
    rest : ℕ
    rest = greatest k (λ y. p (suc y)) (λ y. f (suc y))

    go : (b : Bool) → p 0 ≡ b → (rest ≡ 0) ⊎ ((x : ℕ) × (x < k) × (p (suc x) ≡ true) × (f (suc x) ≡ rest))
        → (max (cond (p 0) (f 0) 0) rest ≡ 0) ⊎ ((x : ℕ) × (x < suc k) × (p x ≡ true) × (f x ≡ max (cond (p 0) (f 0) 0) rest))
    go false e (inl z) = inl (rw e (omega arith))
    go false e (inr w) = inr (suc w.0, omega (arith, w.1), w.2, rw e (omega (arith, w.3)))
    go true e (inl z) = inr (0, omega arith, e, rw e (omega arith))
    go true e (inr w) =
        ⊎_elim (λ (l : f 0 < rest). inr (suc w.0, omega (arith, w.1), w.2, rw e (omega (arith, w.3)))) (λ (l : rest ≤ f 0). inr (0, omega arith, e, rw e (omega arith)))
        (cases_lt (f 0) rest)

pub none_some : {A : Type 0} {x : A} → none ≡ some x → ⊥
none_some e = let z : ◌≡◌ {A = ℕ} 0 1 = cc in omega arith

pub some_same : {A : Type 0} {x y : A} → some x ≡ some y → x ≡ y
some_same e = cc

later_some : (o : Option ℕ) (i : ℕ) → later o ≡ some i → (j : ℕ) × (o ≡ some j) × (i ≡ suc j)
unfolding later
later_some none i e = absurd (none_some e)
later_some (some j) i e = (j, refl, cc)

later_none : (o : Option ℕ) → later o ≡ none → o ≡ none
unfolding later
later_none none e = refl
later_none (some j) e = absurd (none_some (sym e))

-- the place found is one of the list, and what stands there passes
pub place_some : {A : Type 0} (p : A → Bool) (xs : List A) (d : A) (i : ℕ) → place p xs ≡ some i → (i < length xs) × (p (get_or xs i d) ≡ true)
unfolding place
place_some p [] d i e = absurd (none_some e)
place_some {A} p (x ∷ xs) d i e =
    ⊎_elim
    (λ h. let z : 0 ≡ i = cc in subst (λ (k : ℕ). (k < suc (length xs)) × (p (get_or (x ∷ xs) k d) ≡ true)) z (omega arith, h))
    (λ h.
    let w = later_some (place p xs) i (let q : cond (p x) (some 0) (later (place p xs)) ≡ some i = e in rw h at q) in
    let ih = place_some p xs d w.0 w.1 in
    subst (λ (k : ℕ). (k < suc (length xs)) × (p (get_or (x ∷ xs) k d) ≡ true)) (sym w.2) (omega (arith, ih.0), ih.1))
    (cases_Bool (p x))

found : {A : Type 0} (p : A → Bool) (x : A) (xs : List A) (i : ℕ) → place p (x ∷ xs) ≡ some i → cond (p x) (some 0) (later (place p xs)) ≡ some i
unfolding place
found p x xs i e = e

-- and nothing before it does
pub place_first : {A : Type 0} (p : A → Bool) (xs : List A) (d : A) (i : ℕ) → place p xs ≡ some i → (j : ℕ) → j < i → p (get_or xs j d) ≡ false
unfolding place
place_first p [] d i e j l = absurd (none_some e)
place_first p (x ∷ xs) d i e zero l =
    ⊎_elim (λ (h : p x ≡ true). let z : 0 ≡ i = some_same (rw h at (found p x xs i e)) in absurd (omega arith)) (λ h. h) (cases_Bool (p x))
place_first p (x ∷ xs) d i e (suc j) l =
    ⊎_elim (λ (h : p x ≡ true). let z : 0 ≡ i = some_same (rw h at (found p x xs i e)) in absurd (omega arith))
    (λ (h : p x ≡ false). let w = later_some (place p xs) i (rw h at (found p x xs i e)) in place_first p xs d w.0 w.1 j (omega (arith, w.2)))
    (cases_Bool (p x))

-- no place found: nothing passes
pub place_none : {A : Type 0} (p : A → Bool) (xs : List A) (d : A) → place p xs ≡ none → (i : ℕ) → i < length xs → p (get_or xs i d) ≡ false
unfolding place
place_none p [] d e i l = absurd (not-suc-le-zero l)
place_none p (x ∷ xs) d e zero l =
    ⊎_elim (λ h. absurd (none_some (sym (let q : cond (p x) (some 0) (later (place p xs)) ≡ none = e in rw h at q)))) (λ h. h) (cases_Bool (p x))
place_none p (x ∷ xs) d e (suc i) l =
    ⊎_elim (λ h. absurd (none_some (sym (let q : cond (p x) (some 0) (later (place p xs)) ≡ none = e in rw h at q))))
    (λ h. place_none p xs d (later_none (place p xs) (let q : cond (p x) (some 0) (later (place p xs)) ≡ none = e in rw h at q)) i (omega arith))
    (cases_Bool (p x))

-- a list without the element at place p
pub length-remove : {A : Type 0} (p : ℕ) (xs : List A) → p < length xs → length xs ≡ suc (length (remove p xs))
unfolding remove
length-remove p [] l = absurd (not-suc-le-zero l)
length-remove zero (x ∷ xs) l = refl
length-remove (suc p) (x ∷ xs) l = ap suc (length-remove p xs (omega arith))

pub remove_past : {A : Type 0} (p : ℕ) (xs : List A) → length xs ≤ p → remove p xs ≡ xs
unfolding remove
remove_past p [] l = refl
remove_past zero (x ∷ xs) l = absurd (not-suc-le-zero l)
remove_past {A} (suc p) (x ∷ xs) l = ap {B = List A} (λ r. x ∷ r) (remove_past p xs (omega arith))

pub remove-append : {A : Type 0} (xs ys : List A) (p : ℕ) → remove (length xs + p) (xs ++ ys) ≡ xs ++ remove p ys
unfolding remove
remove-append [] ys p = rw zero-add
remove-append {A} (x ∷ xs) ys p = rw suc-add (ap {B = List A} (λ r. x ∷ r) (remove-append xs ys p))

-- an element before p stays where it is, one past p moves down by one
pub get_d_remove_below : {A : Type 0} (p i : ℕ) (xs : List A) (d : A) → i < p → get_or (remove p xs) i d ≡ get_or xs i d
unfolding remove
get_d_remove_below p i [] d l = refl
get_d_remove_below zero i (x ∷ xs) d l = absurd (not-suc-le-zero l)
get_d_remove_below (suc p) zero (x ∷ xs) d l = refl
get_d_remove_below (suc p) (suc i) (x ∷ xs) d l = get_d_remove_below p i xs d (omega arith)

pub get_d_remove_above : {A : Type 0} (p i : ℕ) (xs : List A) (d : A) → p ≤ i → get_or (remove p xs) i d ≡ get_or xs (suc i) d
unfolding remove
get_d_remove_above p i [] d l = refl
get_d_remove_above zero i (x ∷ xs) d l = refl
get_d_remove_above (suc p) zero (x ∷ xs) d l = absurd (not-suc-le-zero l)
get_d_remove_above (suc p) (suc i) (x ∷ xs) d l = get_d_remove_above p i xs d (omega arith)
