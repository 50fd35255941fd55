-- A field that was read, as bytes.
use Rattle.std.proofs.Common.{◌≡◌, ℕ, zero, suc, ◌+◌, ◌*◌, ◌/◌, ◌%◌, ◌<◌, ◌≤◌, List, [], ◌∷◌, ◌++◌, length, get_or, drop, replicate, sym, ap, ◌∙◌, ap₂, add-zero, arith}
use Rattle.std.proofs.lemmas.List.{drop_more, drop-drop, take-append-drop, length-take, length-drop, append-nil}
use Rattle.casefile.specs.declared.field.Phase.{Phase}
use Rattle.casefile.specs.Format.{Octets, two}
use Rattle.casefile.specs.Fields.{Item, options, amount, rule, ended}
use Rattle.casefile.specs.Files.{zero_amount}
use Rattle.casefile.specs.Facts.Whole.{octet}
use Rattle.casefile.specs.Facts.Reads.{Reads, Header}
use Rattle.casefile.specs.Bytes.{field, options_field, amount_field, amount_fields}

-- the bytes at i + c and after it, k of them
abbrev pub bytes_at : List ℕ → ℕ → ℕ → ℕ → List ℕ
bytes_at xs i c zero = []
bytes_at xs i c (suc k) = get_or xs (i + c) 0 ∷ bytes_at xs i (c + 1) k

pub unroll : (xs : List ℕ) (i c k : ℕ) → i + c + k ≤ length xs → drop (i + c) xs ≡ bytes_at xs i c k ++ drop (i + c + k) xs
unroll xs i c zero h = ap (λ (n : ℕ). drop n xs) (sym (add-zero (i + c)))
unroll xs i c (suc k) h =
    drop_more xs (i + c) 0 (omega arith)
    ∙ ap (λ (z : List ℕ). get_or xs (i + c) 0 ∷ z)
    (ap (λ (n : ℕ). drop n xs) (let e : i + c + 1 ≡ i + (c + 1) = omega arith in e)
    ∙ unroll xs i (c + 1) k (omega arith)
    ∙ ap (λ (n : ℕ). bytes_at xs i (c + 1) k ++ drop n xs) (let e : i + (c + 1) + k ≡ i + c + suc k = omega arith in e))

pub same_at : (xs : List ℕ) (a b : ℕ) → a ≡ b → get_or xs a 0 ≡ get_or xs b 0
same_at xs a b e = ap (λ (k : ℕ). get_or xs k 0) e

-- a field's bytes
abbrev pub item_field : Item → List ℕ
item_field (options n) = options_field n
item_field (amount l a) = amount_field l a
item_field (rule ls) = field 3 ls
item_field ended = field 4 []

module _ (xs : List ℕ) (o : Octets xs) (i : ℕ) where
  head : (t n j : ℕ) → n < 256 → Header xs i t n j → drop i xs ≡ t ∷ (0 ∷ (n ∷ drop (i + 3) xs))
  head t n j small h =
      let e0 = same_at xs (i + 0) i (add-zero i) in
      let e2 : get_or xs (i + 2) 0 ≡ get_or xs (i + 1 + 1) 0 = same_at xs (i + 2) (i + 1 + 1) (omega arith) in
      let w : i + 0 + 3 ≤ length xs = omega (arith, h.next_place, h.within) in
      let u : drop (i + 0) xs ≡ get_or xs (i + 0) 0 ∷ (get_or xs (i + 1) 0 ∷ (get_or xs (i + 2) 0 ∷ drop (i + 0 + 3) xs)) = unroll xs i 0 3 w in
      let d0 : drop (i + 0) xs ≡ drop i xs = ap (λ (k : ℕ). drop k xs) (add-zero i) in
      let d3 : drop (i + 0 + 3) xs ≡ drop (i + 3) xs = ap (λ (k : ℕ). drop (k + 3) xs) (add-zero i) in
      let f0 : get_or xs (i + 0) 0 ≡ t = e0 ∙ h.tagged in
      let f1 : get_or xs (i + 1) 0 ≡ 0 = omega (arith, h.long, octet xs o (i + 1 + 1)) in
      let f2 : get_or xs (i + 2) 0 ≡ n = omega (arith, h.long, octet xs o (i + 1 + 1)) in
      cc (u, d0, d3, f0, f1, f2)

  pub piece : (p : Phase) (it : Item) (q : Phase) (j : ℕ) → Reads p xs i it q j → drop i xs ≡ item_field it ++ drop j xs
  piece p (options n) q j r =
      let h = r.2 in
      let w : i + 3 + 2 ≤ length xs = omega (arith, h.next_place, h.within) in
      let u : drop (i + 3) xs ≡ get_or xs (i + 3) 0 ∷ (get_or xs (i + 4) 0 ∷ drop (i + 3 + 2) xs) = unroll xs i 3 2 w in
      let e4 : get_or xs (i + 4) 0 ≡ get_or xs (i + 3 + 1) 0 = same_at xs (i + 4) (i + 3 + 1) (omega arith) in
      let f3 : get_or xs (i + 3) 0 ≡ n / 256 = omega (arith, r.3, octet xs o (i + 3 + 1)) in
      let f4 : get_or xs (i + 4) 0 ≡ n % 256 = omega (arith, r.3, octet xs o (i + 3 + 1)) in
      let d : drop (i + 3 + 2) xs ≡ drop j xs = ap (λ (k : ℕ). drop k xs) (sym h.next_place) in
      cc (head 1 2 j (omega arith) h, u, f3, f4, d)
  piece p (amount l a) q j r =
      let h = r.2 in
      let w : i + 3 + 5 ≤ length xs = omega (arith, h.next_place, h.within) in
      let u : drop (i + 3) xs ≡ get_or xs (i + 3) 0 ∷ (get_or xs (i + 4) 0 ∷ (get_or xs (i + 5) 0 ∷ (get_or xs (i + 6) 0 ∷ (get_or xs (i + 7) 0 ∷ drop (i + 3 + 5) xs)))) = unroll xs i 3 5 w in
      let e4 : get_or xs (i + 4) 0 ≡ get_or xs (i + 3 + 1) 0 = same_at xs (i + 4) (i + 3 + 1) (omega arith) in
      let e5 : get_or xs (i + 5) 0 ≡ get_or xs (i + 3 + 1 + 1) 0 = same_at xs (i + 5) (i + 3 + 1 + 1) (omega arith) in
      let e6 : get_or xs (i + 6) 0 ≡ get_or xs (i + 3 + 1 + 2) 0 = same_at xs (i + 6) (i + 3 + 1 + 2) (omega arith) in
      let e7 : get_or xs (i + 7) 0 ≡ get_or xs (i + 3 + 1 + 2 + 1) 0 = same_at xs (i + 7) (i + 3 + 1 + 2 + 1) (omega arith) in
      let b4 = octet xs o (i + 4) in
      let b5 = octet xs o (i + 5) in
      let b6 = octet xs o (i + 6) in
      let b7 = octet xs o (i + 7) in
      let s : a ≡ get_or xs (i + 4) 0 * 16777216 + get_or xs (i + 5) 0 * 65536 + get_or xs (i + 6) 0 * 256 + get_or xs (i + 7) 0 = omega (arith, r.4) in
      let f4 : get_or xs (i + 4) 0 ≡ a / 16777216 = omega arith in
      let f5 : get_or xs (i + 5) 0 ≡ (a / 65536) % 256 = omega arith in
      let f6 : get_or xs (i + 6) 0 ≡ (a / 256) % 256 = omega arith in
      let f7 : get_or xs (i + 7) 0 ≡ a % 256 = omega arith in
      let d : drop (i + 3 + 5) xs ≡ drop j xs = ap (λ (k : ℕ). drop k xs) (sym h.next_place) in
      cc (head 2 5 j (omega arith) h, u, r.3, f4, f5, f6, f7, d)
  piece p (rule ls) q j r =
      let h = r.2 in
      let n : ℕ = two xs (i + 1) in
      let w : i + 3 + n ≤ length xs = omega (arith, h.next_place, h.within) in
      let k : drop (i + 3) xs ≡ ls ++ drop j xs =
      sym (take-append-drop n (drop (i + 3) xs))
      ∙ ap₂ (λ (y z : List ℕ). y ++ z) r.4 (drop-drop n (i + 3) xs ∙ ap (λ (m : ℕ). drop m xs) (sym h.next_place)) in
      let m : n ≡ length ls = sym (sym (ap length r.4) ∙ length-take n (drop (i + 3) xs) ∙ rw (length-drop (i + 3) xs) (omega arith)) in
      head 3 n j (omega (arith, r.3)) h ∙ ap₂ (λ (y : ℕ) (z : List ℕ). 3 ∷ (0 ∷ (y ∷ z))) m k
  piece p ended q j r =
      let h = r.2 in
      head 4 0 j (omega arith) h ∙ ap (λ (k : ℕ). 4 ∷ (0 ∷ (0 ∷ drop k xs))) (sym (h.next_place ∙ add-zero (i + 3)))

-- amounts of 0 are not written
pub amounts_zeros : (l k : ℕ) (ys : List ℕ) → amount_fields l (replicate k zero_amount ++ ys) ≡ amount_fields (l + k) ys
amounts_zeros l zero ys = ap (λ (n : ℕ). amount_fields n ys) (sym (add-zero l))
amounts_zeros l (suc k) ys = amounts_zeros (l + 1) k ys ∙ ap (λ (n : ℕ). amount_fields n ys) (let e : l + 1 + k ≡ l + suc k = omega arith in e)

pub amounts_nothing : (l k : ℕ) → amount_fields l (replicate k zero_amount) ≡ []
amounts_nothing l k = ap (amount_fields l) (sym (append-nil (replicate k zero_amount))) ∙ amounts_zeros l k []
