-- The choices of the open layer are the partial choices below.
use Rattle.std.proofs.Common.{◌≡◌, ℕ, ◌+◌, ◌*◌, ◌/◌, ◌%◌, ◌<◌, ◌≤◌, Bool, true, false, cond, ◌&&◌, ◌||◌, eqb, ltb, List, [], ◌∷◌, ◌++◌, map, length, get_or, sym, refl, ap, ◌∙◌, subst, ap₂, ⊎_elim, arith}
use Rattle.std.proofs.lemmas.Bool.{cases_lt, cases_Bool, and_parts, and_left, le-ltb, ltb-true, eq-eqb, ne_eqb, cond-true, cond-false, cond_both}
use Rattle.cases.specs.Literals.{Literals, complement}
use Rattle.cases.specs.Choices.{sets, keeps, keeps_all, Partial}
use Rattle.cases.specs.Counted.{counted}
use Rattle.cases.specs.Facts.Counted.{length-counted, counted_in, counted_out}
use Rattle.cases.specs.Meanings.{Meaning, is_oversize, options_of, rules_of}
use Rattle.cases.specs.Limits.{Limited}
use Rattle.cases.proofs.Tests.{complement_on}
use Rattle.layers.specs.declared.setting.Setting.TheVariants.{On, Off, Open}
use Rattle.layers.specs.Apart.{not_together}
use Rattle.layers.specs.Opens.{mark, not_both, opened}
use Rattle.layers.specs.Facts.Opens.{open_rules_told}
use Rattle.layers.specs.Readings.{is_on, read_down, setting_in, settings, is_set_on, is_set_off, set_by}
use Rattle.layers.specs.OpenLaws.{ReadsDown}
use Rattle.layers.proofs.Keeping.{kept_left, kept_right, keeps_both, kept_at, keeps_each, kept_alike, sets_on, kept_apart, apart_kept}
use Rattle.layers.proofs.Reading.{read_below}

module _ (c : List Bool) where
  rule_marked : (x : List ℕ) → keeps (sets c) (map mark x) ≡ keeps (is_on c) x
  unfolding keeps
  rule_marked [] = refl
  rule_marked (l ∷ x) = ap₂ (λ (a b : Bool). a || b) (sets_on c l) (rule_marked x)

  rules_marked : (xs : List (List ℕ)) → keeps_all (sets c) (map (map mark) xs) ≡ keeps_all (is_on c) xs
  unfolding keeps_all
  rules_marked [] = refl
  rules_marked (x ∷ xs) = ap₂ (λ (a b : Bool). a && b) (rule_marked x) (rules_marked xs)

both_marks : (v : ℕ) → not_both v ≡ not_together (2 * v) (2 * v + 1)
both_marks v =
    let p : 4 * v + 1 ≡ 2 * (2 * v) + 1 = omega arith in
    let q : 4 * v + 3 ≡ 2 * (2 * v + 1) + 1 = omega arith in
    ap₂ (λ (a b : ℕ). a ∷ b ∷ []) p q

-- A literal and its complement are the two of one option.
even : (l : ℕ) → l % 2 < 1 → (l ≡ 2 * (l / 2)) × (complement l ≡ 2 * (l / 2) + 1)
unfolding complement
even l h = (omega arith, omega arith)

odd : (l : ℕ) → 1 ≤ l % 2 → (l ≡ 2 * (l / 2) + 1) × (complement l ≡ 2 * (l / 2))
unfolding complement
odd l h = (omega arith, omega arith)

apart_pairs : (S : Literals) (n : ℕ) → ((l : ℕ) → S l ≡ true → l < 2 * n) → ((v : ℕ) → v < n → S (2 * v) ≡ true → S (2 * v + 1) ≡ true → ⊥) → Partial n S
apart_pairs S n inside apart = record {
  in_range = inside;
  not_both = λ l a b.
      let v : l / 2 < n = omega (arith, inside l a) in
      ⊎_elim (λ h. apart (l / 2) v (subst (λ x. S x ≡ true) (even l h).0 a) (subst (λ x. S x ≡ true) (even l h).1 b))
      (λ h. apart (l / 2) v (subst (λ x. S x ≡ true) (odd l h).1 b) (subst (λ x. S x ≡ true) (odd l h).0 a)) (cases_lt (l % 2) 1);
}

module _ (m : Meaning) (h : Limited m) (fine : is_oversize (opened m) ≡ false) where
  reads : (c : List Bool) → keeps_all (sets c) (rules_of (opened m)) ≡ true
      → Partial (options_of m) (read_down (options_of m) c) × (keeps_all (read_down (options_of m) c) (rules_of m) ≡ true)
  unfolding read_down
  reads c k =
      let n = options_of m in
      let marked = map (map mark) (rules_of m) in
      let told : keeps_all (sets c) (marked ++ counted not_both n) ≡ true = subst (λ rs. keeps_all (sets c) rs ≡ true) (open_rules_told m fine) k in
      let each = kept_at (sets c) (counted not_both n) (kept_right (sets c) marked (counted not_both n) told) in
      let apart : (v : ℕ) → v < n → is_on c (2 * v) ≡ true → is_on c (2 * v + 1) ≡ true → ⊥ =
      λ v l. kept_apart c (2 * v) (2 * v + 1) (subst (λ x. keeps (sets c) x ≡ true) (counted_in not_both n v [] l ∙ both_marks v) (each v (rw (length-counted not_both n) l))) in (
        apart_pairs (read_down n c) n (λ l e. ltb-true l (2 * n) (and_parts (ltb l (2 * n)) (is_on c l) e).0)
            (λ v l a b. apart v l (and_parts (ltb (2 * v) (2 * n)) (is_on c (2 * v)) a).1 (and_parts (ltb (2 * v + 1) (2 * n)) (is_on c (2 * v + 1)) b).1),
        sym (kept_alike (is_on c) (read_down n c) (rules_of m) (λ i j q. read_below n c (get_or (get_or (rules_of m) i []) j 255) (h.literals_exist i j q)))
            ∙ sym (rules_marked c (rules_of m)) ∙ kept_left (sets c) marked (counted not_both n) told,
      )

  module _ (S : Literals) (p : Partial (options_of m) S) where
    outside : (l : ℕ) → 2 * options_of m ≤ l → S l ≡ false
    outside l q = ⊎_elim (λ z. let r = p.in_range l z in absurd (omega arith)) (λ z. z) (cases_Bool (S l))

    marks : List Bool
    marks = counted S (2 * options_of m)

    marks_are : (l : ℕ) → is_on marks l ≡ S l
    unfolding marks
    marks_are l = ⊎_elim (λ q. counted_in S (2 * options_of m) l false q) (λ q. counted_out S (2 * options_of m) l false q ∙ sym (outside l q)) (cases_lt l (2 * options_of m))

    marks_keep : keeps_all S (rules_of m) ≡ true → keeps_all (sets marks) (rules_of (opened m)) ≡ true
    marks_keep k =
        let n = options_of m in
        subst (λ rs. keeps_all (sets marks) rs ≡ true) (sym (open_rules_told m fine))
        (keeps_both (sets marks) (map (map mark) (rules_of m)) (counted not_both n)
        (rules_marked marks (rules_of m) ∙ kept_alike (is_on marks) S (rules_of m) (λ i j _. marks_are (get_or (get_or (rules_of m) i []) j 255)) ∙ k)
        (keeps_each (sets marks) (counted not_both n)
        (λ v l.
        let r : v < n = rw (length-counted not_both n) at l in
        subst (λ x. keeps (sets marks) x ≡ true) (sym (counted_in not_both n v [] r ∙ both_marks v))
        (apart_kept marks (2 * v) (2 * v + 1) (λ a b. p.not_both (2 * v) (sym (marks_are (2 * v)) ∙ a) (ap S (complement_on v) ∙ sym (marks_are (2 * v + 1)) ∙ b))))))

    marks_read : (l : ℕ) → read_down (options_of m) marks l ≡ S l
    unfolding read_down
    marks_read l =
        let n = options_of m in
        ⊎_elim (λ q. sym (read_below n marks l q) ∙ marks_are l) (λ q. and_left (ltb l (2 * n)) (is_on marks l) (le-ltb l (2 * n) q) ∙ sym (outside l q)) (cases_lt l (2 * n))

    is_read : keeps_all S (rules_of m) ≡ true
        → (c : List Bool) × (length c ≡ 2 * options_of m) × (keeps_all (sets c) (rules_of (opened m)) ≡ true) × ((l : ℕ) → read_down (options_of m) c l ≡ S l)
    unfolding marks
    is_read k = (marks, length-counted S (2 * options_of m), marks_keep k, marks_read)

    -- The setting of option v, where not both of its literals are in S.
    on_setting : (a b : Bool) → is_set_on (cond a On (cond b Off Open)) ≡ a
    on_setting true b = refl
    on_setting false true = refl
    on_setting false false = refl

    off_setting : (a b : Bool) → (a ≡ true → b ≡ true → ⊥) → is_set_off (cond a On (cond b Off Open)) ≡ b
    off_setting true true k = absurd (k refl refl)
    off_setting true false k = refl
    off_setting false true k = refl
    off_setting false false k = refl

    written_below : (l : ℕ) → l < 2 * options_of m → set_by (settings (options_of m) S) l ≡ S l
    unfolding set_by
    written_below l q =
        let n = options_of m in
        let v = l / 2 in
        let at : get_or (settings n S) v Open ≡ setting_in S v = counted_in (setting_in S) n v Open (omega arith) in
        ⊎_elim
        (λ k.
        let e : l % 2 ≡ 0 = omega arith in
        cond-true (eqb (l % 2) 0) (is_set_on (get_or (settings n S) v Open)) (is_set_off (get_or (settings n S) v Open)) (eq-eqb (l % 2) 0 e)
        ∙ ap is_set_on at
        ∙ on_setting (S (2 * v)) (S (2 * v + 1))
        ∙ ap S (sym (even l k).0))
        (λ k.
        cond-false (eqb (l % 2) 0) (is_set_on (get_or (settings n S) v Open)) (is_set_off (get_or (settings n S) v Open)) (ne_eqb (l % 2) 0 (λ z. omega arith))
        ∙ ap is_set_off at
        ∙ off_setting (S (2 * v)) (S (2 * v + 1)) (λ a b. p.not_both (2 * v) a (ap S (complement_on v) ∙ b))
        ∙ ap S (sym (odd l k).0))
        (cases_lt (l % 2) 1)

    written_past : (l : ℕ) → 2 * options_of m ≤ l → set_by (settings (options_of m) S) l ≡ S l
    unfolding set_by
    written_past l q =
        let n = options_of m in
        let at : get_or (settings n S) (l / 2) Open ≡ Open = counted_out (setting_in S) n (l / 2) Open (omega arith) in
        cond_both (eqb (l % 2) 0) (is_set_on (get_or (settings n S) (l / 2) Open)) (is_set_off (get_or (settings n S) (l / 2) Open)) (λ x. x ≡ false) (λ _. ap is_set_on at) (λ _. ap is_set_off at)
        ∙ sym (outside l q)

    written : (l : ℕ) → set_by (settings (options_of m) S) l ≡ S l
    written l = ⊎_elim (written_below l) (written_past l) (cases_lt l (2 * options_of m))

pub open_reads_down : (m : Meaning) → Limited m → is_oversize (opened m) ≡ false → ReadsDown m
open_reads_down m h fine = record { reads = reads m h fine; is_read = is_read m h fine; written = written m h fine }
