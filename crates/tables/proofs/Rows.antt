-- What writes to the array of rows make of the list that its front stands for; all from the definitions.
use Rattle.std.proofs.Common.{◌≡◌, ℕ, zero, suc, ◌+◌, ◌-◌, ◌<◌, ◌≤◌, Bool, false, List, [], ◌∷◌, ◌++◌, map, length, get_or, take, drop, set, sym, refl, ap, ◌∙◌, ap₂, ⊎_elim, not-suc-le-zero, add-one, arith}
use Rattle.std.proofs.lemmas.Bool.{cases_lt}
use Rattle.std.proofs.lemmas.List.{length-map, length-take-le, get_or-map, get_or-take, get_or_past, take_more_set, map_push, ext_get_or}
use Rattle.calculus.specs.Scans.{first, remove}
use Rattle.calculus.proofs.Scans.{length-remove, get_d_remove_below, get_d_remove_above}
use Rattle.tables.specs.declared.learned.Row.{Row}
use Rattle.tables.specs.declared.learned.Learned.{Learned}
use Rattle.tables.specs.Rows.{Noted, row_of, no_row, nothing_noted, marked, noting}
use Rattle.tables.specs.Learned.{rows_of}
use Rattle.tables.proofs.Facts.{len_rows, next_note}

-- what the first n rows stand for
abbrev pub front : ℕ → List Row → List Noted
front n rs = map row_of (take n rs)

pub length_front : (n : ℕ) (rs : List Row) → n ≤ length rs → length (front n rs) ≡ n
length_front n rs h = length-map (take n rs) row_of ∙ length-take-le n rs h

pub front_at : (n : ℕ) (rs : List Row) (j : ℕ) → n ≤ length rs → j < n → get_or (front n rs) j nothing_noted ≡ row_of (get_or rs j no_row)
front_at n rs j h l =
    let k : j < length (take n rs) = omega (arith, length-take-le n rs h) in
    get_or-map row_of (take n rs) j no_row nothing_noted k ∙ ap row_of (get_or-take n rs j no_row l)

pub row_at : (l : Learned) (j : ℕ) → j < l.len → get_or (rows_of l) j nothing_noted ≡ row_of (get_or l.rows j no_row)
unfolding rows_of
row_at l j h = front_at l.len l.rows j (omega (arith, l.few, l.full)) h

pub row_past : (l : Learned) (j : ℕ) → l.len ≤ j → get_or (rows_of l) j nothing_noted ≡ nothing_noted
row_past l j h = get_or_past (rows_of l) j nothing_noted (omega (arith, len_rows l))

pub front_push : (rs : List Row) (n : ℕ) (r : Row) → n < length rs → front (n + 1) (set rs n r) ≡ front n rs ++ row_of r ∷ []
front_push rs n r h = ap (map row_of) (take_more_set rs n r h) ∙ map_push row_of (take n rs) r

-- a mark
pub front_marked : (rs : List Row) (n j : ℕ) (r : Row) → r.literals ≡ (get_or rs j no_row).literals → front n (set rs j r) ≡ marked j r.reason (front n rs)
unfolding marked
front_marked [] zero j r e = refl
front_marked [] (suc n) j r e = refl
front_marked (x ∷ rs) zero j r e = refl
front_marked (x ∷ rs) (suc n) zero r e = ap (λ s. row_of (record { literals = s; reason = r.reason }) ∷ front n rs) e
front_marked (x ∷ rs) (suc n) (suc j) r e = ap {B = List Noted} (λ ns. row_of x ∷ ns) (front_marked rs n j r e)

pub marked_past : (j : ℕ) (b : Bool) (rs : List Noted) → length rs ≤ j → marked j b rs ≡ rs
unfolding marked
marked_past j b [] h = refl
marked_past zero b (r ∷ rs) h = absurd (not-suc-le-zero h)
marked_past (suc j) b (r ∷ rs) h = ap {B = List Noted} (λ ns. r ∷ ns) (marked_past j b rs (omega arith))

-- a note of every row
pub front_noted : (n : ℕ) (old new : List Row) (bs : List Bool) → n ≤ length old → n ≤ length new
    → ((k : ℕ) → k < n → get_or new k no_row ≡ record { literals = (get_or old k no_row).literals; reason = get_or bs k false })
    → front n new ≡ noting bs (front n old)
unfolding noting
front_noted zero old new bs lo ln h = refl
front_noted (suc n) [] new bs lo ln h = absurd (not-suc-le-zero lo)
front_noted (suc n) (x ∷ old) [] bs lo ln h = absurd (not-suc-le-zero ln)
front_noted (suc n) (x ∷ old) (y ∷ new) bs lo ln h =
    ap₂ {C = List Noted} (λ (r : Noted) (rs : List Noted). r ∷ rs) (ap row_of (h 0 (omega arith)))
    (front_noted n old new (drop 1 bs) (omega arith) (omega arith)
    (λ k l. h (suc k) (omega arith) ∙ ap (λ (b : Bool). record { literals = (get_or old k no_row).literals; reason = b }) (sym (next_note bs k))))

-- one row less
pub front_removed : (old new : List Row) (p n : ℕ) → p < n → n ≤ length old → n ≤ length new
    → ((q : ℕ) → p ≤ q → q + 1 < n → get_or new q no_row ≡ get_or old (q + 1) no_row) → ((q : ℕ) → q < p → get_or new q no_row ≡ get_or old q no_row)
    → front (n - 1) new ≡ remove p (front n old)
front_removed old new p n h lo ln moved stays =
    let d = nothing_noted in
    let a : length (front (n - 1) new) ≡ n - 1 = length_front (n - 1) new (omega arith) in
    let b : length (front n old) ≡ n = length_front n old lo in
    let c = length-remove p (front n old) (omega arith) in
    ext_get_or d (front (n - 1) new) (remove p (front n old)) (omega arith)
    (λ i l.
    let k : i < n - 1 = omega arith in
    front_at (n - 1) new i (omega arith) k
    ∙ ⊎_elim
    (λ (q : i < p). ap row_of (stays i q) ∙ sym (front_at n old i lo (omega arith)) ∙ sym (get_d_remove_below p i (front n old) d q))
    (λ (q : p ≤ i). ap row_of (moved i q (omega arith)) ∙ sym (front_at n old (i + 1) lo (omega arith)) ∙ ap (λ (z : ℕ). get_or (front n old) z d) (add-one i) ∙ sym (get_d_remove_above p i (front n old) d q))
    (cases_lt i p))

pub first_nowhere : (k : ℕ) (p : ℕ → Bool) → ((j : ℕ) → j < k → p j ≡ false) → first k p ≡ k
unfolding first
first_nowhere zero p h = refl
first_nowhere (suc k) p h = rw (h 0 (omega arith)) (ap suc (first_nowhere k (λ x. p (suc x)) (λ j l. h (suc j) (omega arith))))
