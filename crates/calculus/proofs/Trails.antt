-- Trails, from their definition: no option twice, levels, cutting, and how a trail counts the conflicts that can still come.
use Rattle.std.proofs.Common.{◌≡◌, ℕ, zero, suc, ◌+◌, ◌-◌, ◌*◌, ◌/◌, ◌%◌, ◌^◌, ◌<◌, ◌≤◌, true, false, not, ◌&&◌, eqb, leb, [], ◌∷◌, length, sym, refl, ap, ◌∙◌, subst, ⊎_elim, arith, pow_pos}
use Rattle.std.proofs.Math.Bool.{and_comm}
use Rattle.std.proofs.lemmas.Bool.{both_ways, cases_Bool, or_cases, or_left, or_right, or_from, and_parts, and_from, and_left, not-true, true≢false, cases_lt, leb-true, leb-false, eqb-true, eq-eqb, ne_eqb, le-leb, lt-leb, cond_both}
use Rattle.cases.specs.Literals.{complement, Literals}
use Rattle.calculus.specs.Scans.{count}
use Rattle.calculus.specs.Trails.{Trail, on, unset, Entry, decided, Reason, opened, forced, Levelled, level_of, level, cut}
use Rattle.calculus.specs.Calculus.{Free, Asserts}
use Rattle.calculus.proofs.Scans.{count_none, count_besides, count_le}
use Rattle.calculus.proofs.Literals.{complement_not_self, complement_twice}

-- each literal was free when it joined
abbrev pub Distinct : ℕ → Trail → Type 0
Distinct n [] = Unit {0}
Distinct n (e ∷ t) = Free n t e.literal × Distinct n t

pub on_range : (n : ℕ) (t : Trail) (x : ℕ) → Distinct n t → on t x ≡ true → x < 2 * n
unfolding on
on_range n [] x d h = absurd (true≢false (sym h))
on_range n (e ∷ t) x d h =
    ⊎_elim (λ k. subst (λ (z : ℕ). z < 2 * n) (eqb-true e.literal x k) d.0.in_range) (λ k. on_range n t x d.1 k) (or_cases (eqb e.literal x) (on t x) h)

-- a trail holds no literal together with its complement
pub on_one : (n : ℕ) (t : Trail) (x : ℕ) → Distinct n t → on t x ≡ true → on t (complement x) ≡ false
unfolding on
on_one n [] x d h = refl
on_one n (e ∷ t) x d h =
    ⊎_elim
    (λ k.
    let q = eqb-true e.literal x k in
    or_from (eqb e.literal (complement x)) (on t (complement x)) (ne_eqb e.literal (complement x) (λ z. complement_not_self x (sym z ∙ q))) (subst (λ (z : ℕ). on t (complement z) ≡ false) q d.0.not_false))
    (λ k.
    or_from (eqb e.literal (complement x)) (on t (complement x))
    (ne_eqb e.literal (complement x) (λ z. both_ways (on t x) (subst (λ (y : ℕ). on t y ≡ false) (ap complement z ∙ complement_twice x) d.0.not_false) k))
    (on_one n t x d.1 k))
    (or_cases (eqb e.literal x) (on t x) h)

pub even_pair : (l : ℕ) → l % 2 ≡ 0 → (2 * (l / 2) ≡ l) × (2 * (l / 2) + 1 ≡ complement l)
unfolding complement
even_pair l e = omega arith

pub odd_pair : (l : ℕ) → l % 2 ≡ 1 → (2 * (l / 2) ≡ complement l) × (2 * (l / 2) + 1 ≡ l)
unfolding complement
odd_pair l e = omega arith

-- an option is unset if neither a literal of it nor its complement is on the trail
pub unset_at : (t : Trail) (l : ℕ) → unset t (l / 2) ≡ (not (on t l) && not (on t (complement l)))
unfolding unset
unset_at t l = go (l % 2) refl
  where
    go : (k : ℕ) → l % 2 ≡ k → (not (on t (2 * (l / 2))) && not (on t (2 * (l / 2) + 1))) ≡ (not (on t l) && not (on t (complement l)))
    go zero e = let w = even_pair l e in rw (w.1, w.0)
    go (suc k) e = let w = odd_pair l (omega arith) in rw (w.1, w.0) (and_comm (not (on t (complement l))) (not (on t l)))

pub free_unset : (n : ℕ) (t : Trail) (l : ℕ) → Free n t l → unset t (l / 2) ≡ true
free_unset n t l f = unset_at t l ∙ and_from (not (on t l)) (not (on t (complement l))) (ap not f.not_set) (ap not f.not_false)

pub unset_free : (n : ℕ) (t : Trail) (l : ℕ) → l < 2 * n → unset t (l / 2) ≡ true → Free n t l
unset_free n t l r u =
    let w = and_parts (not (on t l)) (not (on t (complement l))) (sym (unset_at t l) ∙ u) in
    record { in_range = r; not_set = not-true (on t l) w.0; not_false = not-true (on t (complement l)) w.1 }

-- an entry sets its own option and no other
pub on_own : (e : Entry) (t : Trail) → on (e ∷ t) e.literal ≡ true
unfolding on
on_own e t = or_left (eqb e.literal e.literal) (on t e.literal) (eq-eqb e.literal e.literal refl)

pub unset_own : (e : Entry) (t : Trail) → unset (e ∷ t) (e.literal / 2) ≡ false
unset_own e t = unset_at (e ∷ t) e.literal ∙ and_left (not (on (e ∷ t) e.literal)) (not (on (e ∷ t) (complement e.literal))) (ap not (on_own e t))

pub unset_other : (e : Entry) (t : Trail) (v : ℕ) → (v ≡ e.literal / 2 → ⊥) → unset t v ≡ unset (e ∷ t) v
unfolding unset on
unset_other e t v h =
    let a = ne_eqb e.literal (2 * v) (λ z. h (omega arith)) in
    let b = ne_eqb e.literal (2 * v + 1) (λ z. h (omega arith)) in
    rw (a, b)

-- as many options are set as the trail has entries
pub unset_all : (v : ℕ) → unset [] v ≡ true
unfolding unset on
unset_all v = refl

pub count_set : (n : ℕ) (t : Trail) → Distinct n t → count n (λ v. not (unset t v)) ≡ length t
count_set n [] d = count_none n (λ v. not (unset [] v)) (λ v _. ap not (unset_all v))
count_set n (e ∷ t) d =
    count_besides n (λ v. not (unset t v)) (λ v. not (unset (e ∷ t) v)) (e.literal / 2) (let r = d.0.in_range in omega arith)
    (ap not (free_unset n t e.literal d.0)) (ap not (unset_own e t)) (λ v _ h. ap not (unset_other e t v h))
    ∙ ap suc (count_set n t d.1)

pub short : (n : ℕ) (t : Trail) → Distinct n t → length t ≤ n
short n t d = omega (arith, count_set n t d, count_le n (λ v. not (unset t v)))

-- a free literal is left: the trail is shorter than the options
pub shorter : (n : ℕ) (t : Trail) (l : ℕ) → Distinct n t → Free n t l → length t < n
shorter n t l d f =
    let e : Entry = record { literal = l; level = 0; reason = decided } in
    short n (e ∷ t) (f, d)

-- levels
pub opened_up : (r : Reason) (k : ℕ) → k ≤ opened r k
unfolding opened
opened_up decided k = omega arith
opened_up (forced i) k = omega arith

pub opened_by : (r : Reason) (k : ℕ) → opened r k ≤ suc k
unfolding opened
opened_by decided k = omega arith
opened_by (forced i) k = omega arith

pub level_of_le : (t : Trail) (x : ℕ) → Levelled t → level_of t x ≤ level t
unfolding level level_of
level_of_le [] x w = omega arith
level_of_le (e ∷ t) x w =
    cond_both (eqb e.literal x) e.level (level_of t x) (λ (z : ℕ). z ≤ opened e.reason (level t)) (λ _. omega (arith, w.0))
    (λ _. omega (arith, level_of_le t x w.1, opened_up e.reason (level t)))

-- what is left after a cut was there before
pub cut_on : (i : ℕ) (t : Trail) (x : ℕ) → on (cut i t) x ≡ true → on t x ≡ true
unfolding on cut
cut_on i [] x h = h
cut_on i (e ∷ t) x h =
    ⊎_elim (λ (k : leb e.level i ≡ true). rw k at h)
    (λ (k : leb e.level i ≡ false). or_right (eqb e.literal x) (on t x) (cut_on i t x (rw k at h)))
    (cases_Bool (leb e.level i))

-- a literal of a level up to i stays
pub cut_keeps : (i : ℕ) (t : Trail) (x : ℕ) → on t x ≡ true → level_of t x ≤ i → on (cut i t) x ≡ true
unfolding on cut level_of
cut_keeps i [] x h l = h
cut_keeps i (e ∷ t) x h l =
    ⊎_elim (λ (k : leb e.level i ≡ true). rw k h)
    (λ (k : leb e.level i ≡ false).
    rw k
    (⊎_elim (λ (q : eqb e.literal x ≡ true). let z : e.level ≤ i = rw q at l in absurd (omega (arith, leb-false e.level i k)))
    (λ (q : eqb e.literal x ≡ false). cut_keeps i t x (⊎_elim (λ y. absurd (both_ways (eqb e.literal x) q y)) (λ y. y) (or_cases (eqb e.literal x) (on t x) h)) (rw q at l))
    (cases_Bool (eqb e.literal x))))
    (cases_Bool (leb e.level i))

-- what stays has a level up to i
pub cut_below : (n i : ℕ) (t : Trail) (x : ℕ) → Distinct n t → Levelled t → on (cut i t) x ≡ true → level_of t x ≤ i
unfolding on cut level_of
cut_below n i [] x d w h = omega arith
cut_below n i (e ∷ t) x d w h =
    ⊎_elim (λ (k : leb e.level i ≡ true). omega (arith, level_of_le (e ∷ t) x w, w.0, leb-true e.level i k))
    (λ (k : leb e.level i ≡ false).
    let g : on (cut i t) x ≡ true = rw k at h in
    let q : eqb e.literal x ≡ false = ne_eqb e.literal x (λ z. both_ways (on t x) (subst (λ (y : ℕ). on t y ≡ false) z d.0.not_set) (cut_on i t x g)) in
    rw q (cut_below n i t x d.1 w.1 g))
    (cases_Bool (leb e.level i))

pub cut_distinct : (n i : ℕ) (t : Trail) → Distinct n t → Distinct n (cut i t)
unfolding cut
cut_distinct n i [] d = d
cut_distinct n i (e ∷ t) d =
    cond_both (leb e.level i) (e ∷ t) (cut i t) (λ (z : Trail). Distinct n z) (λ _. d) (λ _. cut_distinct n i t d.1)

pub cut_levelled : (i : ℕ) (t : Trail) → Levelled t → Levelled (cut i t)
unfolding cut
cut_levelled i [] w = w
cut_levelled i (e ∷ t) w =
    cond_both (leb e.level i) (e ∷ t) (cut i t) (λ (z : Trail). Levelled z) (λ _. w) (λ _. cut_levelled i t w.1)

pub cut_level : (i : ℕ) (t : Trail) → Levelled t → level (cut i t) ≤ i
unfolding cut level
cut_level i [] w = omega arith
cut_level i (e ∷ t) w =
    ⊎_elim (λ (k : leb e.level i ≡ true). rw k (omega (arith, w.0, leb-true e.level i k))) (λ (k : leb e.level i ≡ false). rw k (cut_level i t w.1)) (cases_Bool (leb e.level i))

-- no level is left out, so the levels up to i are i
pub cut_level_exact : (i : ℕ) (t : Trail) → Levelled t → i ≤ level t → level (cut i t) ≡ i
unfolding cut level
cut_level_exact i [] w l = omega arith
cut_level_exact i (e ∷ t) w l =
    ⊎_elim (λ (k : leb e.level i ≡ true). rw k (omega (arith, w.0, leb-true e.level i k)))
    (λ (k : leb e.level i ≡ false). rw k (cut_level_exact i t w.1 (omega (arith, w.0, leb-false e.level i k, opened_by e.reason (level t)))))
    (cases_Bool (leb e.level i))

pub cut_all : (i : ℕ) (t : Trail) → Levelled t → level t ≤ i → cut i t ≡ t
unfolding cut
cut_all i [] w l = refl
cut_all i (e ∷ t) w l = rw (le-leb e.level i (omega (arith, w.0)))

-- where the top has a level above i, the cut goes on below it
pub cut_top : (e : Entry) (t : Trail) (i : ℕ) → Levelled (e ∷ t) → i < level (e ∷ t) → cut i (e ∷ t) ≡ cut i t
unfolding cut
cut_top e t i w h = rw (lt-leb e.level i (omega (arith, w.0)))

-- The conflicts that a trail accounts for. Think of all ways to set n options as the leaves of a tree: a forced entry
-- at place p has closed the other side, which has 2 ^ (n - 1 - p) leaves.
abbrev pub worth : Reason → ℕ → ℕ
worth decided w = 0
worth (forced i) w = w

abbrev pub spent : ℕ → Trail → ℕ
spent n [] = 0
spent n (e ∷ t) = worth e.reason (2 ^ (n - suc (length t))) + spent n t

-- the leaves below the trail
abbrev pub room : ℕ → Trail → ℕ
room n t = 2 ^ (n - length t)

pub room_pos : (n : ℕ) (t : Trail) → 1 ≤ room n t
room_pos n t = pow_pos (n - length t)

pub room_half : (n : ℕ) (t : Trail) → length t < n → room n t ≡ 2 * 2 ^ (n - suc (length t))
room_half n t l =
    let e : n - length t ≡ suc (n - suc (length t)) = omega arith in
    rw e (omega arith)

worth_le : (r : Reason) (w : ℕ) → worth r w ≤ w
worth_le decided w = omega arith
worth_le (forced i) w = omega arith

-- a shorter trail accounts, with the leaves below it, for no less
pub spent_room : (n : ℕ) (e : Entry) (t : Trail) → length t < n → spent n (e ∷ t) + room n (e ∷ t) ≤ spent n t + room n t
spent_room n e t l = omega (arith, room_half n t l, worth_le e.reason (2 ^ (n - suc (length t))))

pub spent_le : (n : ℕ) (t : Trail) → length t ≤ n → spent n t + room n t ≤ 2 ^ n
spent_le n [] l = let e : n - 0 ≡ n = omega arith in rw e (omega arith)
spent_le n (e ∷ t) l = omega (arith, spent_room n e t l, spent_le n t (omega arith))

-- a level opens at a decided entry, which accounts for nothing
worth_opened : (r : Reason) (k i w : ℕ) → i < opened r k → k ≤ i → worth r w ≡ 0
unfolding opened
worth_opened decided k i w h l = refl
worth_opened (forced j) k i w h l = absurd (omega arith)

-- a decided entry leaves by the cut: one that is forced in its place accounts for all that stood above it
pub cut_gain : (n i : ℕ) (t : Trail) → Levelled t → length t ≤ n → i < level t → spent n t + room n t ≤ spent n (cut i t) + 2 ^ (n - suc (length (cut i t)))
unfolding level
cut_gain n i [] w l h = absurd (omega arith)
cut_gain n i (e ∷ t) w l h =
    rw (cut_top e t i w h)
    (⊎_elim (λ (k : i < level t). omega (arith, cut_gain n i t w.1 (omega arith) k, spent_room n e t l))
    (λ (k : level t ≤ i).
    rw (cut_all i t w.1 k) (omega (arith, worth_opened e.reason (level t) i (2 ^ (n - suc (length t))) h k)))
    (cases_lt i (level t)))

-- the asserted literal joins below the trail's level
pub asserts_lower : (n : ℕ) (t : Trail) (D : Literals) (L i : ℕ) → Levelled t → Asserts n t D L i → i < level t
asserts_lower n t D L i w a =
    ⊎_elim (λ (z : i ≡ 0). omega (arith, a.not_ground))
    (λ y.
    let ne : level_of t (complement y.0) ≡ level t → ⊥ = λ z. y.3 (a.alone y.0 y.1 y.2 z) in
    omega (arith, level_of_le t (complement y.0) w, y.4, ne))
    a.reached
