-- A list written over another at a place.
use Rattle.std.proofs.Common.{◌≡◌, ℕ, zero, suc, ◌+◌, ◌*◌, ◌<◌, ◌≤◌, false, eqb, ltb, List, map, [], ◌∷◌, ◌++◌, length, get_or, take, drop, Ok, Err, Result, sym, refl, subst, ap, ◌∙◌, ap₂, add-one, add-zero, add_assoc, zero-add, arith}
use Rattle.std.proofs.lemmas.List.{append_assoc, append-nil, take-append-drop, take_at, drop_at, drop-drop, length-append, length-take-le, length-drop, take_more, flat_map_more, take_all}
use Rattle.std.proofs.lemmas.List.FromFn.{sum_by-map-range_with_len_more}
use Rattle.std.proofs.lemmas.Bool.{cond_both, cond-false, le-ltb}
use Rattle.cases.specs.declared.refusal.Refusal.{Refusal}
use Rattle.cases.specs.declared.refusal.Refusal.TheVariants.{ShortBuffer}
use Rattle.cases.specs.Meanings.{Meaning, oversize, sound, is_oversize}
use Rattle.std.specs.List.{sum, range_with_len}
use Rattle.casefile.specs.declared.writer.Cursor.{Cursor}
use Rattle.casefile.specs.Inner.Writing.{over, Room, Wrote}
use Rattle.casefile.specs.Bytes.{field, amount_field, charge_field, amount_fields, rule_fields, encode, encode_told, written, buffer_after}

module _ {X : Type 0} (at : ℕ) (old : List X) where
  split : (ys : List X) → over at old ys ≡ (take at old ++ ys) ++ drop (at + length ys) old
  split ys = sym (append_assoc (take at old) ys (drop (at + length ys) old))

  long : (ys : List X) → at ≤ length old → length (take at old ++ ys) ≡ at + length ys
  long ys h = length-append (take at old) ys ∙ ap (λ (n : ℕ). n + length ys) (length-take-le at old h)

  pub over_over : (ys zs : List X) → at + length ys ≤ length old → over (at + length ys) (over at old ys) zs ≡ over at old (ys ++ zs)
  over_over ys zs h =
      let n : ℕ = at + length ys in
      let h0 : at ≤ length old = omega arith in
      let t : take n (over at old ys) ≡ take at old ++ ys = ap (take n) (split ys) ∙ take_at (take at old ++ ys) (drop n old) n (long ys h0) in
      let d : drop (n + length zs) (over at old ys) ≡ drop (n + length zs) old =
      sym (drop-drop (length zs) n (over at old ys))
      ∙ ap (drop (length zs)) (ap (drop n) (split ys) ∙ drop_at (take at old ++ ys) (drop n old) n (long ys h0))
      ∙ drop-drop (length zs) n old in
      let k : n + length zs ≡ at + length (ys ++ zs) = omega (arith, length-append ys zs) in
      ap₂ (λ (a b : List X). a ++ (zs ++ b)) t d
      ∙ append_assoc (take at old) ys (zs ++ drop (n + length zs) old)
      ∙ ap (λ (z : List X). take at old ++ z) (sym (append_assoc ys zs (drop (n + length zs) old)))
      ∙ ap (λ (m : ℕ). take at old ++ ((ys ++ zs) ++ drop m old)) k

  pub length_over : (ys : List X) → at + length ys ≤ length old → length (over at old ys) ≡ length old
  length_over ys h =
      let h0 : at ≤ length old = omega arith in
      ap length (split ys) ∙ length-append (take at old ++ ys) (drop (at + length ys) old)
      ∙ ap₂ (λ (a b : ℕ). a + b) (long ys h0) (length-drop (at + length ys) old) ∙ omega arith

-- a cursor that writes one part after another
pub wrote_more : (w u v : Cursor) (ys zs : List ℕ) → Room w ys → Wrote w ys u → Wrote u zs v → Wrote w (ys ++ zs) v
wrote_more w u v ys zs h p q = record {
  same = q.same ∙ p.same;
  bytes = q.bytes ∙ ap₂ (λ (n : ℕ) (z : List ℕ). over n z zs) p.place p.bytes ∙ over_over w.at w.out.now ys zs h;
  place = omega (arith, p.place, q.place, length-append ys zs);
}

-- one part more of all that there is room for
pub room_next : (w u : Cursor) (all ys zs more : List ℕ) → Room w all → more ≡ ys ++ zs → length more ≤ length all → Wrote w ys u → Room u zs
room_next w u all ys zs more h e k p =
    let l = length-append ys zs in
    let m = ap length e in
    let r : Room w ys = omega arith in
    omega (arith, p.place, ap length p.bytes, length_over w.at w.out.now ys r)

pub wrote_next : (w u v : Cursor) (all ys zs more : List ℕ) → Room w all → more ≡ ys ++ zs → length more ≤ length all → Wrote w ys u → Wrote u zs v → Wrote w more v
wrote_next w u v all ys zs more h e k p q =
    let l = length-append ys zs in
    let m = ap length e in
    let r : Room w ys = omega arith in
    subst (λ (z : List ℕ). Wrote w z v) (sym e) (wrote_more w u v ys zs r p q)

-- two parts, where the second is written because there is room for it
pub wrote_then : (w u v : Cursor) (ys zs : List ℕ) → Room w (ys ++ zs) → Wrote w ys u → (Room u zs → Wrote u zs v) → Wrote w (ys ++ zs) v
wrote_then w u v ys zs h p q =
    let k : length (ys ++ zs) ≤ length (ys ++ zs) = omega arith in
    wrote_next w u v (ys ++ zs) ys zs (ys ++ zs) h refl k p (q (room_next w u (ys ++ zs) ys zs (ys ++ zs) h refl k p))

-- a sum over a range, by what each number adds
pub sum_range : (h F : ℕ → ℕ) (m : ℕ) → F 0 ≡ 0 → ((i : ℕ) → i < m → F (i + 1) ≡ F i + h i) → (n : ℕ) → n ≤ m → sum (map h (range_with_len 0 n)) ≡ F n
sum_range h F m none step zero k = sym none
sum_range h F m none step (suc n) k =
    subst (λ (j : ℕ). sum (map h (range_with_len 0 j)) ≡ F j) (add-one n)
    (sum_by-map-range_with_len_more (λ (x : ℕ). x) h 0 n n (zero-add n) ∙ ap (λ (z : ℕ). z + h n) (sum_range h F m none step n (omega arith)) ∙ sym (step n (omega arith)))

-- one rule more
pub rules_more : (rs : List (List ℕ)) (r : ℕ) → r < length rs → rule_fields (take (r + 1) rs) ≡ rule_fields (take r rs) ++ field 3 (get_or rs r [])
rules_more rs r h = ap rule_fields (take_more rs r [] h) ∙ sym (flat_map_more (field 3) [] (take r rs) (get_or rs r []))

rules-append : (rs ss : List (List ℕ)) → length (rule_fields (rs ++ ss)) ≡ length (rule_fields rs) + length (rule_fields ss)
rules-append [] ss = sym (zero-add (length (rule_fields ss)))
rules-append (r ∷ rs) ss =
    length-append (field 3 r) (rule_fields (rs ++ ss)) ∙ ap (λ (n : ℕ). length (field 3 r) + n) (rules-append rs ss)
    ∙ sym (add_assoc (length (field 3 r)) (length (rule_fields rs)) (length (rule_fields ss)))
    ∙ ap (λ (n : ℕ). n + length (rule_fields ss)) (sym (length-append (field 3 r) (rule_fields rs)))

pub rules_part : (rs : List (List ℕ)) (r : ℕ) → length (rule_fields (take r rs)) ≤ length (rule_fields rs)
rules_part rs r = omega (arith, rules-append (take r rs) (drop r rs), ap (λ (z : List (List ℕ)). length (rule_fields z)) (take-append-drop r rs))

-- one amount more
pub amounts-append : (l : ℕ) (xs ys : List ℕ) → amount_fields l (xs ++ ys) ≡ amount_fields l xs ++ amount_fields (l + length xs) ys
amounts-append l [] ys = ap (λ (n : ℕ). amount_fields n ys) (sym (add-zero l))
amounts-append l (x ∷ xs) ys =
    ap (λ (z : List ℕ). charge_field l x ++ z) (amounts-append (l + 1) xs ys ∙ ap (λ (n : ℕ). amount_fields (l + 1) xs ++ amount_fields n ys) (let e : l + 1 + length xs ≡ l + length (x ∷ xs) = omega arith in e))
    ∙ sym (append_assoc (charge_field l x) (amount_fields (l + 1) xs) (amount_fields (l + length (x ∷ xs)) ys))

pub amounts_more : (xs : List ℕ) (l : ℕ) → l < length xs → amount_fields 0 (take (l + 1) xs) ≡ amount_fields 0 (take l xs) ++ charge_field l (get_or xs l 0)
amounts_more xs l h =
    ap (amount_fields 0) (take_more xs l 0 h) ∙ amounts-append 0 (take l xs) (get_or xs l 0 ∷ [])
    ∙ ap (λ (n : ℕ). amount_fields 0 (take l xs) ++ (charge_field n (get_or xs l 0) ++ [])) (let e : 0 + length (take l xs) ≡ l = omega (arith, length-take-le l xs (let k : l ≤ length xs = omega arith in k)) in e)
    ∙ ap (λ (z : List ℕ). amount_fields 0 (take l xs) ++ z) (append-nil (charge_field l (get_or xs l 0)))

pub amounts_next : (xs : List ℕ) (l a : ℕ) → l < length xs → a ≡ get_or xs l 0 → amount_fields 0 (take (l + 1) xs) ≡ amount_fields 0 (take l xs) ++ charge_field l a
amounts_next xs l a h e = amounts_more xs l h ∙ ap (λ (y : ℕ). amount_fields 0 (take l xs) ++ charge_field l y) (sym e)

pub amounts_part : (xs : List ℕ) (l : ℕ) → length (amount_fields 0 (take l xs)) ≤ length (amount_fields 0 xs)
amounts_part xs l = omega (arith, ap length (amounts-append 0 (take l xs) (drop l xs)), length-append (amount_fields 0 (take l xs)) (amount_fields (0 + length (take l xs)) (drop l xs)), ap (λ (z : List ℕ). length (amount_fields 0 z)) (take-append-drop l xs))

-- how long they get
pub charge_small : (l a : ℕ) → length (charge_field l a) ≤ 8
charge_small l a = cond_both (eqb a 0) [] (amount_field l a) (λ (z : List ℕ). length z ≤ 8) (λ _. omega arith) (λ _. omega arith)

pub amounts_small : (l : ℕ) (xs : List ℕ) → length (amount_fields l xs) ≤ 8 * length xs
amounts_small l [] = omega arith
amounts_small l (x ∷ xs) = omega (arith, length-append (charge_field l x) (amount_fields (l + 1) xs), charge_small l x, amounts_small (l + 1) xs)

pub rules_small : (rs : List (List ℕ)) → ((r : ℕ) → length (get_or rs r []) ≤ 24) → length (rule_fields rs) ≤ 27 * length rs
rules_small [] h = omega arith
rules_small (x ∷ rs) h = omega (arith, length-append (field 3 x) (rule_fields rs), h 0, rules_small rs (λ r. h (suc r)))

-- the same in numbers, as sums over the literals and over the rules
pub amounts_sum : (xs : List ℕ) (n : ℕ) → n ≡ length xs → sum (map (λ l. length (charge_field l (get_or xs l 0))) (range_with_len 0 n)) ≡ length (amount_fields 0 xs)
amounts_sum xs n e =
    sum_range (λ l. length (charge_field l (get_or xs l 0))) (λ l. length (amount_fields 0 (take l xs))) (length xs) refl
    (λ l h. ap length (amounts_more xs l h) ∙ length-append (amount_fields 0 (take l xs)) (charge_field l (get_or xs l 0))) n (omega arith)
    ∙ ap (λ (z : List ℕ). length (amount_fields 0 z)) (take_all n xs (omega arith))

pub rules_sum : (rs : List (List ℕ)) (n : ℕ) → n ≡ length rs → sum (map (λ r. length (field 3 (get_or rs r []))) (range_with_len 0 n)) ≡ length (rule_fields rs)
rules_sum rs n e =
    sum_range (λ r. length (field 3 (get_or rs r []))) (λ r. length (rule_fields (take r rs))) (length rs) refl
    (λ r h. ap length (rules_more rs r h) ∙ length-append (rule_fields (take r rs)) (field 3 (get_or rs r []))) n (omega arith)
    ∙ ap (λ (z : List (List ℕ)). length (rule_fields z)) (take_all n rs (omega arith))

-- what is written from the start stands before what was there
pub written_ok : (m : Meaning) (old new : List ℕ) (n : ℕ) → is_oversize m ≡ false → length (encode_told m) ≤ length old → n ≡ length (encode_told m) → new ≡ over 0 old (encode_told m)
    → (◌≡◌ {A = Result ℕ Refusal} (Ok n) (written m old)) × (new ≡ buffer_after m old)
written_ok oversize old new n s h e w = absurd (let z : ◌≡◌ {A = ℕ} 0 1 = cc in omega arith)
written_ok (sound s) old new n t h e w =
    let f : ltb (length old) (length (encode s)) ≡ false = le-ltb (length old) (length (encode s)) h in (
      ap Ok e ∙ sym (cond-false (ltb (length old) (length (encode s))) (Err ShortBuffer) (Ok (length (encode s))) f),
      w ∙ ap (λ (k : ℕ). encode s ++ drop k old) (zero-add (length (encode s))) ∙ sym (cond-false (ltb (length old) (length (encode s))) old (encode s ++ drop (length (encode s)) old) f),
    )
