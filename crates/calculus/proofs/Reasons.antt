-- Reasons: each forced literal has a rule of which it is the only literal that older entries leave unset; and rows that
-- are reasons stay in the table. From the definitions of `cut`, `leaving` and `renamed`.
use Rattle.std.proofs.Common.{◌≡◌, ℕ, suc, ◌+◌, ◌-◌, ◌<◌, ◌≤◌, Bool, true, false, cond, not, ◌||◌, eqb, ltb, leb, List, [], ◌∷◌, ◌++◌, length, get_or, sym, refl, ap, ◌∙◌, subst, ⊎_elim, arith, length-append}
use lib.ListN.{get_or-append}
use Rattle.std.proofs.lemmas.Bool.{cases_Bool, or_cases, or_parts, not-true, true≢false, cases_lt, leb-true, leb-false, eqb-true, eqb-false, ne_eqb, lt-ltb, le-ltb, cond_both}
use Rattle.cases.specs.Literals.{Literals, complement}
use Rattle.calculus.specs.Scans.{count, remove, first}
use Rattle.calculus.specs.Trails.{Trail, cut, Reason, decided, forced, on, level, opened, Levelled}
use Rattle.calculus.specs.States.{clause}
use Rattle.calculus.specs.Learned.{is_place, is_reason, leaving, most_rows, renamed, moved}
use Rattle.calculus.specs.Calculus.{Reasoned, Because, FalseBut, Free}
use Rattle.calculus.specs.Examples.{rows}
use Rattle.calculus.proofs.Scans.{count_grow, count_none, first_yes, some_fails, length-remove, remove_past, get_d_remove_above, get_d_remove_below}
use Rattle.calculus.proofs.Trails.{short, Distinct, worth, spent}

pub cut_reasoned : (n i : ℕ) (cs : List Literals) (t : Trail) → Reasoned n cs t → Reasoned n cs (cut i t)
unfolding cut
cut_reasoned n i cs [] d = d
cut_reasoned n i cs (e ∷ t) d =
    cond_both (leb e.level i) (e ∷ t) (cut i t) (λ (z : Trail). Reasoned n cs z) (λ _. d) (λ _. cut_reasoned n i cs t d.1)

-- one more rule at the end
clause-append : (cs ds : List Literals) (i : ℕ) → i < length cs → clause (cs ++ ds) i ≡ clause cs i
unfolding clause
clause-append cs ds i h = get_or-append cs ds (λ _. false) i h

more_because : (n : ℕ) (cs : List Literals) (D : Literals) (t : Trail) (l : ℕ) (r : Reason) → Because n cs t l r → Because n (cs ++ (D ∷ [])) t l r
more_because n cs D t l decided b = tt
more_because n cs D t l (forced i) b =
    let e = clause-append cs (D ∷ []) i b.0 in
    (omega (arith, length-append cs (D ∷ []), b.0), subst (λ (C : Literals). C l ≡ true) (sym e) b.1, subst (λ (C : Literals). FalseBut n t C (λ x. x ≡ l → ⊥)) (sym e) b.2)

pub more_reasoned : (n : ℕ) (cs : List Literals) (D : Literals) (t : Trail) → Reasoned n cs t → Reasoned n (cs ++ (D ∷ [])) t
more_reasoned n cs D [] h = tt
more_reasoned n cs D (e ∷ t) h = (more_because n cs D t e.literal e.reason h.0, more_reasoned n cs D t h.1)

-- every name on the trail is the place of a rule
because_below : (n : ℕ) (cs : List Literals) (t : Trail) (l : ℕ) (r : Reason) (i : ℕ) → Because n cs t l r → is_place r i ≡ true → i < length cs
unfolding is_place
because_below n cs t l decided i b h = absurd (true≢false (sym h))
because_below n cs t l (forced j) i b h = subst (λ (k : ℕ). k < length cs) (eqb-true j i h) b.0

pub reasons_below : (n : ℕ) (cs : List Literals) (t : Trail) (i : ℕ) → Reasoned n cs t → is_reason t i ≡ true → i < length cs
unfolding is_reason
reasons_below n cs [] i r h = absurd (true≢false (sym h))
reasons_below n cs (e ∷ t) i r h =
    ⊎_elim (λ k. because_below n cs t e.literal e.reason i r.0 k) (λ k. reasons_below n cs t i r.1 k) (or_cases (is_place e.reason i) (is_reason t i) h)

-- a trail is-reason at most as many rows as it has entries
place_other : (r j k : ℕ) → (k ≡ j - r → ⊥) → eqb j (r + k) ≡ false
place_other r j k h = ne_eqb j (r + k) (λ z. h (omega arith))

named_once : (r : ℕ) (q : Reason) (old : ℕ → Bool) (k : ℕ) → count k (λ j. is_place q (r + j) || old j) ≤ suc (count k old)
unfolding is_place
named_once r decided old k = omega arith
named_once r (forced i) old k = count_grow k old (λ j. eqb i (r + j) || old j) (i - r) (λ y _ h. rw (place_other r i y h))

pub reasons_few : (r : ℕ) (t : Trail) (k : ℕ) → count k (λ j. is_reason t (r + j)) ≤ length t
unfolding is_reason
reasons_few r [] k = omega (arith, count_none k (λ _. false) (λ _ _. refl))
reasons_few r (e ∷ t) k = omega (arith, named_once r e.reason (λ j. is_reason t (r + j)) k, reasons_few r t k)

-- The row that leaves is no reason, and the table has room after it left.
pub record Leaves (r : ℕ) (t : Trail) (rows : List Literals) : Type 0 where
  pub not_named : is_reason t (r + leaving r t rows) ≡ false
  pub has_room : length (remove (leaving r t rows) rows) < most_rows

pub leaves : (n r : ℕ) (cs : List Literals) (t : Trail) (rows : List Literals) → length cs ≡ r + length rows → length rows ≤ most_rows → length t < most_rows
    → Reasoned n cs t → Leaves r t rows
unfolding leaving
leaves n r cs t rows e few short h =
    ⊎_elim
    (λ (k : leb most_rows (length rows) ≡ true).
    let full = leb-true most_rows (length rows) k in
    let f = first_yes (length rows) (λ j. not (is_reason t (r + j))) (some_fails (length rows) (λ j. is_reason t (r + j)) (omega (arith, reasons_few r t (length rows)))) in
    record {
      not_named = rw k (not-true (is_reason t (r + first (length rows) (λ j. not (is_reason t (r + j))))) f.1);
      has_room = rw k (omega (arith, length-remove (first (length rows) (λ j. not (is_reason t (r + j)))) rows f.0));
    })
    (λ (k : leb most_rows (length rows) ≡ false).
    let part = leb-false most_rows (length rows) k in
    record {
      not_named =
          rw k
          (⊎_elim (λ (q : is_reason t (r + length rows) ≡ true). absurd (omega (arith, reasons_below n cs t (r + length rows) h q))) (λ q. q)
          (cases_Bool (is_reason t (r + length rows))));
      has_room = rw (k, remove_past (length rows) rows (omega arith)) part;
    })
    (cases_Bool (leb most_rows (length rows)))

-- a trail renamed
pub on_renamed : (p : ℕ) (t : Trail) (x : ℕ) → on (renamed p t) x ≡ on t x
unfolding on renamed
on_renamed p [] x = refl
on_renamed p (e ∷ t) x = ap (λ (b : Bool). eqb e.literal x || b) (on_renamed p t x)

pub length-renamed : (p : ℕ) (t : Trail) → length (renamed p t) ≡ length t
unfolding renamed
length-renamed p [] = refl
length-renamed p (e ∷ t) = ap suc (length-renamed p t)

pub level_renamed : (p : ℕ) (t : Trail) → level (renamed p t) ≡ level t
unfolding level renamed opened moved
level_renamed p [] = refl
level_renamed p (e ∷ t) = opened_moved p e.reason (level (renamed p t)) ∙ ap (opened e.reason) (level_renamed p t)
  where
    opened_moved : (p : ℕ) (r : Reason) (k : ℕ) → opened (moved p r) k ≡ opened r k
    opened_moved p decided k = refl
    opened_moved p (forced i) k = refl

pub levelled_renamed : (p : ℕ) (t : Trail) → Levelled t → Levelled (renamed p t)
unfolding renamed
levelled_renamed p [] w = tt
levelled_renamed p (e ∷ t) w = (w.0 ∙ sym (level_renamed p (e ∷ t)), levelled_renamed p t w.1)

pub free_renamed : (n p : ℕ) (t : Trail) (l : ℕ) → Free n t l → Free n (renamed p t) l
free_renamed n p t l f = record { in_range = f.in_range; not_set = on_renamed p t l ∙ f.not_set; not_false = on_renamed p t (complement l) ∙ f.not_false }

pub distinct_renamed : (n p : ℕ) (t : Trail) → Distinct n t → Distinct n (renamed p t)
unfolding renamed
distinct_renamed n p [] d = d
distinct_renamed n p (e ∷ t) d = (free_renamed n p t e.literal d.0, distinct_renamed n p t d.1)

worth_moved : (p : ℕ) (r : Reason) (w : ℕ) → worth (moved p r) w ≡ worth r w
unfolding moved
worth_moved p decided w = refl
worth_moved p (forced i) w = refl

pub spent_renamed : (n p : ℕ) (t : Trail) → spent n (renamed p t) ≡ spent n t
unfolding renamed
spent_renamed n p [] = refl
spent_renamed n p (e ∷ t) = rw (length-renamed p t, worth_moved p e.reason, spent_renamed n p t)

-- a rule keeps its place under its new name
clause_moved : (p i : ℕ) (cs : List Literals) → (i ≡ p → ⊥) → clause (remove p cs) (cond (ltb p i) (i - 1) i) ≡ clause cs i
unfolding clause
clause_moved p i cs h =
    ⊎_elim
    (λ (l : p < i).
    let e : suc (i - 1) ≡ i = omega arith in
    rw (lt-ltb p i l) (get_d_remove_above p (i - 1) cs (λ _. false) (omega arith) ∙ ap (λ (k : ℕ). get_or cs k (λ _. false)) e))
    (λ (l : i ≤ p). rw (le-ltb p i l) (get_d_remove_below p i cs (λ _. false) (omega arith)))
    (cases_lt p i)

place_moved : (p i : ℕ) (cs : List Literals) → (i ≡ p → ⊥) → i < length cs → cond (ltb p i) (i - 1) i < length (remove p cs)
place_moved p i cs h k =
    ⊎_elim
    (λ (l : p < i). rw (lt-ltb p i l) (omega (arith, length-remove p cs (omega arith))))
    (λ (l : i ≤ p).
    rw (le-ltb p i l)
    (⊎_elim (λ (q : p < length cs). omega (arith, length-remove p cs q)) (λ (q : length cs ≤ p). rw (remove_past p cs q) k) (cases_lt p (length cs))))
    (cases_lt p i)

because_renamed : (n p : ℕ) (cs : List Literals) (t : Trail) (l : ℕ) (r : Reason) → is_place r p ≡ false → Because n cs t l r → Because n (remove p cs) (renamed p t) l (moved p r)
unfolding is_place moved
because_renamed n p cs t l decided e b = tt
because_renamed n p cs t l (forced i) e b =
    let h : i ≡ p → ⊥ = eqb-false i p e in
    let same = clause_moved p i cs h in (
      place_moved p i cs h b.0,
      subst (λ (C : Literals). C l ≡ true) (sym same) b.1,
      subst (λ (C : Literals). FalseBut n (renamed p t) C (λ x. x ≡ l → ⊥)) (sym same) (λ x r k o. on_renamed p t (complement x) ∙ b.2 x r k o),
    )

pub reasoned_renamed : (n p : ℕ) (cs : List Literals) (t : Trail) → is_reason t p ≡ false → Reasoned n cs t → Reasoned n (remove p cs) (renamed p t)
unfolding renamed is_reason
reasoned_renamed n p cs [] e h = tt
reasoned_renamed n p cs (a ∷ t) e h =
    let w = or_parts (is_place a.reason p) (is_reason t p) e in
    (because_renamed n p cs t a.literal a.reason w.0 h.0, reasoned_renamed n p cs t w.1 h.1)
