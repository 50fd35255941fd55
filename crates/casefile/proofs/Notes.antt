-- The index after a field.
use Rattle.std.proofs.Common.{◌≡◌, ℕ, ◌+◌, ◌-◌, ◌*◌, ◌<◌, ◌≤◌, true, eqb, ltb, leb, ◌≢◌, List, [], ◌∷◌, ◌++◌, length, get_or, set, replicate, Ok, Result, sym, refl, ap, ◌∙◌, subst, ⊎_elim, arith}
use Rattle.std.proofs.lemmas.List.{get_or_append_left, get_or-append_right, get_or_push, length-replicate, length_push, get_or-set_same, get_or-set_other, get_or_past}
use Rattle.std.proofs.lemmas.Bool.{cases_lt, cases_eq, cond-true, cond-false, ne_eqb, le-ltb, lt-leb}
use Rattle.cases.specs.Meanings.{Sound}
use Rattle.casefile.specs.declared.index.Index.{Index}
use Rattle.casefile.specs.declared.fault.Fault.{Fault}
use Rattle.casefile.specs.Fields.{options, amount, rule}
use Rattle.casefile.specs.Files.{zero_amount, below, blank, raised}
use Rattle.casefile.specs.Inner.Scanning.{judged}
use Rattle.casefile.specs.Facts.Whole.{zeros, length-raised}
use Rattle.casefile.proofs.Ranges.{in_range}
use Rattle.casefile.specs.Inner.Indexes.{Placed, Follows, Noted}

-- amounts up to l, read
pub raised_read : (before : List ℕ) (l a k : ℕ) → length before ≤ l → k ≢ l → get_or (raised before l a) k 0 ≡ get_or before k 0
raised_read before l a k h ne =
    let gap : List ℕ = replicate (l - length before) zero_amount in
    let g : length gap ≡ l - length before = length-replicate (l - length before) zero_amount in
    ⊎_elim (λ i. get_or_append_left before (gap ++ a ∷ []) 0 k i)
    (λ i. get_or-append_right before (gap ++ a ∷ []) (length before) k 0 refl i
    ∙ ⊎_elim (λ (u : k - length before < length gap). get_or_append_left gap (a ∷ []) 0 (k - length before) u ∙ zeros (l - length before) (k - length before))
    (λ (u : length gap ≤ k - length before). get_or_past (gap ++ a ∷ []) (k - length before) 0 (rw (length_push gap a) (omega arith))) (cases_lt (k - length before) (length gap))
    ∙ sym (get_or_past before k 0 i))
    (cases_lt k (length before))

pub raised_last : (before : List ℕ) (l a : ℕ) → length before ≤ l → get_or (raised before l a) l 0 ≡ a
raised_last before l a h =
    let gap : List ℕ = replicate (l - length before) zero_amount in
    get_or-append_right before (gap ++ a ∷ []) (length before) l 0 refl h
    ∙ get_or_push gap a 0 (l - length before) (length-replicate (l - length before) zero_amount)

pub priced_more : (xs before : List ℕ) (l a : ℕ) → l < length xs → length before ≤ l → ((k : ℕ) → get_or xs k 0 ≡ get_or before k 0) → (k : ℕ) → get_or (set xs l a) k 0 ≡ get_or (raised before l a) k 0
priced_more xs before l a room h e k =
    ⊎_elim (λ (u : k ≡ l). ap (λ (i : ℕ). get_or (set xs l a) i 0) u ∙ get_or-set_same xs l a 0 room ∙ sym (raised_last before l a h) ∙ ap (λ (i : ℕ). get_or (raised before l a) i 0) (sym u))
    (λ u. get_or-set_other xs l k a 0 u ∙ e k ∙ sym (raised_read before l a k h u)) (cases_eq k l)

module _ (xs : List ℕ) (ix jx : Index) (s : Sound) where
  pub note_amount : (l a : ℕ) → Follows xs ix s → ix.options ≤ 56 → l < 2 * ix.options → ix.floor ≤ l → (a ≡ 0 → ⊥) → length ix.amounts ≡ 112
      → jx.options ≡ ix.options → jx.floor ≡ l + 1 → jx.rules ≡ ix.rules → jx.amounts ≡ set ix.amounts l a → jx.places ≡ ix.places
      → Noted xs (judged s (amount l a)) (Ok tt) jx
  note_amount l a f few h1 h2 h3 full e1 e2 e3 e4 e5 =
      let sh = f.0 in
      let up : length s.amounts ≤ l = omega (arith, f.1) in
      let t : Sound = record { options = s.options; amounts = raised s.amounts l a; rules = s.rules } in
      let j : judged s (amount l a) ≡ Ok t =
      cond-false (leb (2 * s.options) l) _ _ (lt-leb (2 * s.options) l (omega (arith, sh.counted)))
      ∙ cond-false (ltb l (length s.amounts)) _ _ (le-ltb l (length s.amounts) up)
      ∙ cond-false (eqb a 0) _ _ (ne_eqb a 0 h3) in
      let g : Follows xs jx t = (
        record {
          counted = e1 ∙ sh.counted;
          ruled = e3 ∙ sh.ruled;
          priced = λ k. ap (λ (z : List ℕ). get_or z k 0) e4 ∙ priced_more ix.amounts s.amounts l a (omega arith) up sh.priced k;
          inside = λ r i. subst (λ (z : List ℕ). get_or z r 0 + 3 + length (get_or s.rules r []) ≤ length xs) (sym e5) (sh.inside r (omega arith));
          sized = λ r i. subst (λ (z : List ℕ). get_or xs (get_or z r 0 + 2) 0 ≡ length (get_or s.rules r [])) (sym e5) (sh.sized r (omega arith));
          same = λ r k i. subst (λ (z : List ℕ). get_or xs (get_or z r 0 + 3 + k) 0 ≡ get_or (get_or s.rules r []) k 255) (sym e5) (sh.same r k i);
        },
        e2 ∙ sym (length-raised s.amounts l a up),
      ) in
      subst (λ (z : Result Sound Fault). Noted xs z (Ok tt) jx) (sym j) g

  pub note_rule : (ls : List ℕ) (p : ℕ) → Follows xs ix s → Placed xs p ls → ix.rules < 512 → true ≡ below (2 * ix.options) ls → length ix.places ≡ 512
      → jx.options ≡ ix.options → jx.floor ≡ ix.floor → jx.rules ≡ ix.rules + 1 → jx.amounts ≡ ix.amounts → jx.places ≡ set ix.places ix.rules p
      → Noted xs (judged s (rule ls)) (Ok tt) jx
  note_rule ls p f pl few ok full e1 e2 e3 e4 e5 =
      let sh = f.0 in
      let t : Sound = record { options = s.options; amounts = s.amounts; rules = s.rules ++ ls ∷ [] } in
      let w : below (2 * s.options) ls ≡ true = ap (λ (n : ℕ). below (2 * n) ls) (sym sh.counted) ∙ sym ok in
      let j : judged s (rule ls) ≡ Ok t =
      cond-false (leb 512 (length s.rules)) _ _ (lt-leb 512 (length s.rules) (omega (arith, sh.ruled)))
      ∙ cond-true (below (2 * s.options) ls) _ _ w in
      -- each rule as it was, and the last
      let by : (r : ℕ) → r < jx.rules → (P : ℕ → List ℕ → Type 0) → (r < ix.rules → P (get_or ix.places r 0) (get_or s.rules r [])) → P p ls → P (get_or jx.places r 0) (get_or (s.rules ++ ls ∷ []) r []) = λ r i P old new.
      subst (λ (z : List ℕ). P (get_or z r 0) (get_or (s.rules ++ ls ∷ []) r [])) (sym e5)
      (⊎_elim
      (λ (u : r < ix.rules). let u2 : r < length s.rules = omega (arith, sh.ruled) in
      subst (λ (z : ℕ). P z (get_or (s.rules ++ ls ∷ []) r [])) (sym (get_or-set_other ix.places ix.rules r p 0 (λ (v : r ≡ ix.rules). omega arith)))
      (subst (P (get_or ix.places r 0)) (sym (get_or_append_left s.rules (ls ∷ []) [] r u2)) (old u)))
      (λ (u : ix.rules ≤ r). let v : r ≡ ix.rules = omega arith in
      subst (λ (z : ℕ). P (get_or (set ix.places ix.rules p) z 0) (get_or (s.rules ++ ls ∷ []) z [])) (sym v)
      (subst (λ (z : ℕ). P z (get_or (s.rules ++ ls ∷ []) ix.rules [])) (sym (get_or-set_same ix.places ix.rules p 0 (omega arith)))
      (subst (P p) (sym (get_or_push s.rules ls [] ix.rules (sym sh.ruled))) new)))
      (cases_lt r ix.rules)) in
      let many : jx.rules ≡ length (s.rules ++ ls ∷ []) = e3 ∙ ap (λ (n : ℕ). n + 1) sh.ruled ∙ sym (length_push s.rules ls) in
      let g : Follows xs jx t = (
        record {
          counted = e1 ∙ sh.counted;
          ruled = many;
          priced = λ k. ap (λ (z : List ℕ). get_or z k 0) e4 ∙ sh.priced k;
          inside = λ r i. by r i (λ q z. q + 3 + length z ≤ length xs) (λ u. sh.inside r u) pl.inside;
          sized = λ r i. by r i (λ q z. get_or xs (q + 2) 0 ≡ length z) (λ u. sh.sized r u) pl.sized;
          same = λ r k i. by r (subst (λ (n : ℕ). r < n) (sym many) (in_range (s.rules ++ ls ∷ []) r k i)) (λ q z. k < length z → get_or xs (q + 3 + k) 0 ≡ get_or z k 255) (λ u v. sh.same r k v) (λ v. pl.same k v) i;
        },
        e2 ∙ f.1,
      ) in
      subst (λ (z : Result Sound Fault). Noted xs z (Ok tt) jx) (sym j) g

pub index_blank : (xs : List ℕ) (jx : Index) (n : ℕ) → jx.options ≡ n → jx.floor ≡ 0 → jx.rules ≡ 0 → jx.amounts ≡ replicate 112 0 → Follows xs jx (record { options = n; amounts = []; rules = [] })
index_blank xs jx n e1 e2 e3 e4 = (
  record {
    counted = e1;
    ruled = e3;
    priced = λ k. ap (λ (z : List ℕ). get_or z k 0) e4 ∙ zeros 112 k;
    inside = λ r i. absurd (omega arith);
    sized = λ r i. absurd (omega arith);
    same = λ r k i. absurd (omega arith);
  },
  e2,
)

pub note_options : (xs : List ℕ) (ix jx : Index) (s : Sound) (n : ℕ) → Follows xs ix blank → n ≤ 56
    → jx.options ≡ n → jx.floor ≡ ix.floor → jx.rules ≡ ix.rules → jx.amounts ≡ ix.amounts → Noted xs (judged s (options n)) (Ok tt) jx
note_options xs ix jx s n f h e1 e2 e3 e4 =
    let t : Sound = record { options = n; amounts = []; rules = [] } in
    let j : judged s (options n) ≡ Ok t = cond-false (ltb 56 n) _ _ (le-ltb 56 n h) in
    let many : jx.rules ≡ 0 = e3 ∙ f.0.ruled in
    let g : Follows xs jx t = (
      record {
        counted = e1;
        ruled = many;
        priced = λ k. ap (λ (z : List ℕ). get_or z k 0) e4 ∙ f.0.priced k;
        inside = λ r i. absurd (omega arith);
        sized = λ r i. absurd (omega arith);
        same = λ r k i. absurd (omega arith);
      },
      e2 ∙ f.1,
    ) in
    subst (λ (z : Result Sound Fault). Noted xs z (Ok tt) jx) (sym j) g
