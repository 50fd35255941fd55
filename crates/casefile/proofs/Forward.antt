-- What is written of a meaning within the limits reads back as that meaning.
use Rattle.std.proofs.Common.{◌≡◌, ℕ, zero, suc, pred, ◌+◌, ◌-◌, ◌*◌, ◌/◌, ◌%◌, ◌^◌, ◌<◌, ◌≤◌, true, false, eqb, ltb, leb, List, [], ◌∷◌, ◌++◌, length, get_or, take, drop, replicate, Ok, sym, refl, ap, ◌∙◌, ap₂, ⊎_elim, add-zero, arith}
use Rattle.std.proofs.lemmas.List.{append_assoc, append-nil, drop-drop, get_or-drop, length-drop, length-append, length_push, take_at, drop_at, replicate_more}
use Rattle.std.proofs.lemmas.Bool.{cond-true, cond-false, le-leb, lt-leb, lt-ltb, le-ltb, eqb-true, cases_Bool, and_from, both_ways}
use Rattle.cases.specs.Meanings.{Sound, sound}
use Rattle.casefile.specs.declared.field.Phase.{Phase}
use Rattle.casefile.specs.declared.field.Phase.TheVariants.{Start, Amounts, Rules, PastEnd}
use Rattle.cases.specs.Limits.{Limited}
use Rattle.casefile.specs.Format.{two, four, past_end}
use Rattle.casefile.specs.Files.{zero_amount, below, blank, raised, finished, accepted, parse}
use Rattle.casefile.specs.Fields.{options, amount, rule, ended, Given, gave, gave_nothing, after, body, field_at, next}
use Rattle.casefile.specs.Inner.Scanning.{judged, closed, step, scan_from, scan}
use Rattle.casefile.specs.Facts.Whole.{length-raised, Exist}
use Rattle.casefile.specs.Facts.Reads.{Header, open_phase}
use Rattle.casefile.specs.Facts.Same.{same}
use Rattle.casefile.specs.Bytes.{field, options_field, amount_field, amount_fields, rule_fields, encode}
use Rattle.casefile.proofs.Pieces.{same_at}

-- a byte at i + c, by what is left at i
pub byte_at : (xs : List ℕ) (i : ℕ) (ys : List ℕ) → drop i xs ≡ ys → (c : ℕ) → get_or xs (i + c) 0 ≡ get_or ys c 0
byte_at xs i ys e c = sym (get_or-drop i xs c 0) ∙ ap (λ (z : List ℕ). get_or z c 0) e

pub drop_at_more : (xs : List ℕ) (i : ℕ) (ys : List ℕ) → drop i xs ≡ ys → (c : ℕ) → drop (i + c) xs ≡ drop c ys
drop_at_more xs i ys e c = sym (drop-drop c i xs) ∙ ap (drop c) e

pub left_at : (xs : List ℕ) (i : ℕ) (ys : List ℕ) → drop i xs ≡ ys → length xs - i ≡ length ys
left_at xs i ys e = sym (length-drop i xs) ∙ ap length e

module _ (xs : List ℕ) (i : ℕ) where
  -- a header, by what is left
  pub headed : (t : ℕ) (cs rest : List ℕ) → drop i xs ≡ field t cs ++ rest → length cs < 256 → Header xs i t (length cs) (i + 3 + length cs)
  headed t cs rest e small =
      let ys : List ℕ = t ∷ (0 ∷ (length cs ∷ (cs ++ rest))) in
      let n = left_at xs i ys e in
      record {
        tagged = sym (same_at xs (i + 0) i (add-zero i)) ∙ byte_at xs i ys e 0;
        long = omega (arith, byte_at xs i ys e 1, same_at xs (i + 1 + 1) (i + 2) (let k : i + 1 + 1 ≡ i + 2 = omega arith in k), byte_at xs i ys e 2);
        next_place = refl;
        within = omega (arith, length-append cs rest);
      }

  -- what is left after it
  pub after_field : (t : ℕ) (cs rest : List ℕ) → drop i xs ≡ field t cs ++ rest → drop (i + 3 + length cs) xs ≡ rest
  after_field t cs rest e =
      sym (drop-drop (length cs) (i + 3) xs) ∙ ap (drop (length cs)) (drop_at_more xs i (t ∷ (0 ∷ (length cs ∷ (cs ++ rest)))) e 3) ∙ drop_at cs rest (length cs) refl

  by_tag : (p : Phase) (t n j : ℕ) → past_end p ≡ false → Header xs i t n j → next p xs i ≡ body p (after p t) xs i t n
  by_tag p t n j live h =
      cond-false (past_end p) _ (field_at p xs i) live
      ∙ cond-true (leb (i + 3) (length xs)) _ _ (le-leb (i + 3) (length xs) (omega (arith, h.next_place, h.within)))
      ∙ ap₂ (λ (a b : ℕ). body p (after p a) xs i a b) h.tagged h.long

  live_still : (p : Phase) → open_phase p ≡ true → past_end p ≡ false
  live_still Start e = refl
  live_still Amounts e = refl
  live_still Rules e = refl
  live_still PastEnd e = absurd (both_ways false refl e)

  roomy : (t n j : ℕ) → Header xs i t n j → leb (i + 3 + n) (length xs) ≡ true
  roomy t n j h = le-leb (i + 3 + n) (length xs) (omega (arith, h.next_place, h.within))

  pub gives_options : (n : ℕ) (rest : List ℕ) → drop i xs ≡ options_field n ++ rest → next Start xs i ≡ gave (options n) Amounts (i + 3 + 2)
  gives_options n rest e =
      let ys : List ℕ = options_field n ++ rest in
      let h = headed 1 (n / 256 ∷ n % 256 ∷ []) rest e (omega arith) in
      let v : two xs (i + 3) ≡ n = omega (arith, byte_at xs i ys e 3, byte_at xs i ys e 4, same_at xs (i + 3 + 1) (i + 4) (let k : i + 3 + 1 ≡ i + 4 = omega arith in k)) in
      by_tag Start 1 2 (i + 3 + 2) refl h ∙ cond-true (leb (i + 3 + 2) (length xs)) _ _ (roomy 1 2 (i + 3 + 2) h) ∙ ap (λ (k : ℕ). gave (options k) Amounts (i + 3 + 2)) v

  pub gives_amount : (l a : ℕ) (rest : List ℕ) → a < 2 ^ 32 → drop i xs ≡ amount_field l a ++ rest → next Amounts xs i ≡ gave (amount l a) Amounts (i + 3 + 5)
  gives_amount l a rest small e =
      let ys : List ℕ = amount_field l a ++ rest in
      let h = headed 2 (l ∷ a / 16777216 ∷ (a / 65536) % 256 ∷ (a / 256) % 256 ∷ a % 256 ∷ []) rest e (omega arith) in
      let b3 : get_or xs (i + 3) 0 ≡ l = byte_at xs i ys e 3 in
      let b4 : get_or xs (i + 3 + 1) 0 ≡ a / 16777216 = same_at xs (i + 3 + 1) (i + 4) (omega arith) ∙ byte_at xs i ys e 4 in
      let b5 : get_or xs (i + 3 + 1 + 1) 0 ≡ (a / 65536) % 256 = same_at xs (i + 3 + 1 + 1) (i + 5) (omega arith) ∙ byte_at xs i ys e 5 in
      let b6 : get_or xs (i + 3 + 1 + 2) 0 ≡ (a / 256) % 256 = same_at xs (i + 3 + 1 + 2) (i + 6) (omega arith) ∙ byte_at xs i ys e 6 in
      let b7 : get_or xs (i + 3 + 1 + 2 + 1) 0 ≡ a % 256 = same_at xs (i + 3 + 1 + 2 + 1) (i + 7) (omega arith) ∙ byte_at xs i ys e 7 in
      let v : four xs (i + 3 + 1) ≡ a = omega arith in
      by_tag Amounts 2 5 (i + 3 + 5) refl h ∙ cond-true (leb (i + 3 + 5) (length xs)) _ _ (roomy 2 5 (i + 3 + 5) h) ∙ ap₂ (λ (k m : ℕ). gave (amount k m) Amounts (i + 3 + 5)) b3 v

  -- a rule's body, in either phase that takes one
  rule_body : (p : Phase) (n : ℕ) → open_phase p ≡ true → n ≤ 24 → leb (i + 3 + n) (length xs) ≡ true → body p (after p 3) xs i 3 n ≡ gave (rule (take n (drop (i + 3) xs))) Rules (i + 3 + n)
  rule_body Start n live h k = absurd (let z : ◌≡◌ {A = ℕ} 0 1 = cc in omega arith)
  rule_body Amounts n live h k = cond-true (leb n 24) _ _ (le-leb n 24 h) ∙ cond-true (leb (i + 3 + n) (length xs)) _ _ k
  rule_body Rules n live h k = cond-true (leb n 24) _ _ (le-leb n 24 h) ∙ cond-true (leb (i + 3 + n) (length xs)) _ _ k
  rule_body PastEnd n live h k = absurd (let z : ◌≡◌ {A = ℕ} 0 1 = cc in omega arith)

  pub gives_rule : (p : Phase) (ls rest : List ℕ) → open_phase p ≡ true → length ls ≤ 24 → drop i xs ≡ field 3 ls ++ rest → next p xs i ≡ gave (rule ls) Rules (i + 3 + length ls)
  gives_rule p ls rest live short e =
      let n : ℕ = length ls in
      let h = headed 3 ls rest e (omega arith) in
      let v : take n (drop (i + 3) xs) ≡ ls = ap (take n) (drop_at_more xs i (3 ∷ (0 ∷ (n ∷ (ls ++ rest)))) e 3) ∙ take_at ls rest n refl in
      by_tag p 3 n (i + 3 + n) (live_still p live) h ∙ rule_body p n live short (roomy 3 n (i + 3 + n) h) ∙ ap (λ (z : List ℕ). gave (rule z) Rules (i + 3 + n)) v

  end_body : (p : Phase) → open_phase p ≡ true → leb (i + 3 + 0) (length xs) ≡ true → body p (after p 4) xs i 4 0 ≡ gave ended PastEnd (i + 3 + 0)
  end_body Start live k = absurd (let z : ◌≡◌ {A = ℕ} 0 1 = cc in omega arith)
  end_body Amounts live k = cond-true (leb (i + 3 + 0) (length xs)) _ _ k
  end_body Rules live k = cond-true (leb (i + 3 + 0) (length xs)) _ _ k
  end_body PastEnd live k = absurd (let z : ◌≡◌ {A = ℕ} 0 1 = cc in omega arith)

  pub gives_end : (p : Phase) → open_phase p ≡ true → drop i xs ≡ field 4 [] → next p xs i ≡ gave ended PastEnd (i + 3 + 0)
  gives_end p live e =
      let h = headed 4 [] [] e (omega arith) in
      by_tag p 4 0 (i + 3 + 0) (live_still p live) h ∙ end_body p live (roomy 4 0 (i + 3 + 0) h)

module _ (xs : List ℕ) where
  -- one turn
  turn : (f : ℕ) (s : Sound) (p : Phase) (i : ℕ) (g : Given) → 0 < f → next p xs i ≡ g → scan_from f s p xs i ≡ step (λ t q j. scan_from (pred f) t q xs j) s i g
  turn zero s p i g h e = absurd (omega arith)
  turn (suc f) s p i g h e = ap (step (λ t q j. scan_from f t q xs j) s i) e

  abbrev Fine : ℕ → List (List ℕ) → Type 0
  Fine m [] = Unit {0}
  Fine m (r ∷ rs) = (length r ≤ 24) × (below m r ≡ true) × Fine m rs

  reads_rules : (rs : List (List ℕ)) (f : ℕ) (s : Sound) (p : Phase) (i : ℕ) → open_phase p ≡ true → drop i xs ≡ rule_fields rs ++ field 4 [] → length xs - i < f
      → length s.rules + length rs ≤ 512 → Fine (2 * s.options) rs
      → scan_from f s p xs i ≡ accepted (finished (record { options = s.options; amounts = s.amounts; rules = s.rules ++ rs }))
  reads_rules [] f s p i live e h few fine =
      let n = left_at xs i (field 4 []) e in
      turn f s p i (gave ended PastEnd (i + 3 + 0)) (omega arith) (gives_end xs i p live e)
      ∙ turn (pred f) s PastEnd (i + 3 + 0) (gave_nothing PastEnd (i + 3 + 0)) (omega arith) (cond-false (ltb (i + 3 + 0) (length xs)) _ _ (le-ltb (i + 3 + 0) (length xs) (omega arith)))
      ∙ ap (λ (z : List (List ℕ)). accepted (finished (record { options = s.options; amounts = s.amounts; rules = z }))) (sym (append-nil s.rules))
  reads_rules (r ∷ rs) f s p i live e h few fine =
      let rest : List ℕ = rule_fields rs ++ field 4 [] in
      let e2 : drop i xs ≡ field 3 r ++ rest = e ∙ append_assoc (field 3 r) (rule_fields rs) (field 4 []) in
      let t : Sound = record { options = s.options; amounts = s.amounts; rules = s.rules ++ r ∷ [] } in
      let j : ℕ = i + 3 + length r in
      let n = left_at xs i (field 3 r ++ rest) e2 in
      let ok : judged s (rule r) ≡ Ok t =
      cond-false (leb 512 (length s.rules)) _ _ (lt-leb 512 (length s.rules) (omega arith))
      ∙ cond-true (below (2 * s.options) r) _ _ fine.1 in
      turn f s p i (gave (rule r) Rules j) (omega arith) (gives_rule xs i p r rest live fine.0 e2)
      ∙ ap (closed (λ t1. scan_from (pred f) t1 Rules xs j) i) ok
      ∙ reads_rules rs (pred f) t Rules j refl (after_field xs i 3 r rest e2) (omega arith) (omega (arith, length_push s.rules r)) fine.2
      ∙ ap (λ (z : List (List ℕ)). accepted (finished (record { options = s.options; amounts = s.amounts; rules = z }))) (append_assoc s.rules (r ∷ []) rs)

  abbrev Small : List ℕ → Type 0
  Small [] = Unit {0}
  Small (a ∷ more) = (a < 2 ^ 32) × Small more

  -- k amounts of 0 are passed and not yet seen
  reads_amounts : (more : List ℕ) (rs : List (List ℕ)) (k f : ℕ) (s : Sound) (i : ℕ)
      → drop i xs ≡ amount_fields (length s.amounts + k) more ++ (rule_fields rs ++ field 4 []) → length xs - i < f
      → length s.amounts + k + length more ≡ 2 * s.options → Small more → length s.rules + length rs ≤ 512 → Fine (2 * s.options) rs
      → scan_from f s Amounts xs i ≡ accepted (record { options = s.options; amounts = s.amounts ++ (replicate k zero_amount ++ more); rules = s.rules ++ rs })
  reads_amounts [] rs k f s i e h full small few fine =
      reads_rules rs f s Amounts i refl e h few fine
      ∙ ap (λ (z : List ℕ). accepted (record { options = s.options; amounts = s.amounts ++ z; rules = s.rules ++ rs }))
      (ap (λ (n : ℕ). replicate n zero_amount) (let w : 2 * s.options - length s.amounts ≡ k = omega arith in w) ∙ sym (append-nil (replicate k zero_amount)))
  reads_amounts (a ∷ more) rs k f s i e h full small few fine =
      let tail : List ℕ = rule_fields rs ++ field 4 [] in
      let l : ℕ = length s.amounts + k in
      ⊎_elim
      (λ (z : eqb a 0 ≡ true).
      let a0 : a ≡ 0 = eqb-true a 0 z in
      let e2 : drop i xs ≡ amount_fields (length s.amounts + (k + 1)) more ++ tail =
      e ∙ ap (λ (y : List ℕ). (y ++ amount_fields (l + 1) more) ++ tail) (cond-true (eqb a 0) [] (amount_field l a) z)
      ∙ ap (λ (n : ℕ). amount_fields n more ++ tail) (let w : l + 1 ≡ length s.amounts + (k + 1) = omega arith in w) in
      reads_amounts more rs (k + 1) f s i e2 h (omega arith) small.1 few fine
      ∙ ap (λ (y : List ℕ). accepted (record { options = s.options; amounts = s.amounts ++ y; rules = s.rules ++ rs }))
      (ap (λ (y : List ℕ). y ++ more) (sym (replicate_more k zero_amount)) ∙ append_assoc (replicate k zero_amount) (zero_amount ∷ []) more ∙ ap (λ (x : ℕ). replicate k zero_amount ++ (x ∷ more)) (sym a0)))
      (λ (z : eqb a 0 ≡ false).
      let rest : List ℕ = amount_fields (l + 1) more ++ tail in
      let e2 : drop i xs ≡ amount_field l a ++ rest =
      e ∙ ap (λ (y : List ℕ). (y ++ amount_fields (l + 1) more) ++ tail) (cond-false (eqb a 0) [] (amount_field l a) z)
      ∙ append_assoc (amount_field l a) (amount_fields (l + 1) more) tail in
      let t : Sound = record { options = s.options; amounts = raised s.amounts l a; rules = s.rules } in
      let j : ℕ = i + 3 + 5 in
      let n = left_at xs i (amount_field l a ++ rest) e2 in
      let up : length s.amounts ≤ l = omega arith in
      let long : length (raised s.amounts l a) ≡ l + 1 = length-raised s.amounts l a up in
      let ok : judged s (amount l a) ≡ Ok t =
      cond-false (leb (2 * s.options) l) _ _ (lt-leb (2 * s.options) l (omega arith))
      ∙ cond-false (ltb l (length s.amounts)) _ _ (le-ltb l (length s.amounts) up)
      ∙ cond-false (eqb a 0) _ _ z in
      let e3 : drop j xs ≡ amount_fields (length (raised s.amounts l a) + 0) more ++ tail =
      after_field xs i 2 (l ∷ a / 16777216 ∷ (a / 65536) % 256 ∷ (a / 256) % 256 ∷ a % 256 ∷ []) rest e2
      ∙ ap (λ (n1 : ℕ). amount_fields n1 more ++ tail) (sym (add-zero (length (raised s.amounts l a)) ∙ long)) in
      turn f s Amounts i (gave (amount l a) Amounts j) (omega arith) (gives_amount xs i l a rest small.0 e2)
      ∙ ap (closed (λ t1. scan_from (pred f) t1 Amounts xs j) i) ok
      ∙ reads_amounts more rs 0 (pred f) t j e3 (omega arith) (omega arith) small.1 few fine
      ∙ ap (λ (y : List ℕ). accepted (record { options = s.options; amounts = y; rules = s.rules ++ rs }))
      (append_assoc s.amounts (replicate (l - length s.amounts) zero_amount ++ a ∷ []) more
      ∙ ap (λ (y : List ℕ). s.amounts ++ y) (append_assoc (replicate (l - length s.amounts) zero_amount) (a ∷ []) more)
      ∙ ap (λ (n1 : ℕ). s.amounts ++ (replicate n1 zero_amount ++ (a ∷ more))) (let w : l - length s.amounts ≡ k = omega arith in w)))
      (cases_Bool (eqb a 0))

  pub reads_case : (m : Sound) → xs ≡ encode m → m.options ≤ 56 → length m.amounts ≡ 2 * m.options → Small m.amounts → length m.rules ≤ 512 → Fine (2 * m.options) m.rules → scan xs ≡ accepted m
  reads_case m e few full small ruled fine =
      let n : ℕ = m.options in
      let rest : List ℕ = amount_fields 0 m.amounts ++ (rule_fields m.rules ++ field 4 []) in
      let t : Sound = record { options = n; amounts = []; rules = [] } in
      let left = left_at xs 0 (options_field n ++ rest) e in
      turn (suc (length xs)) blank Start 0 (gave (options n) Amounts (0 + 3 + 2)) (omega arith) (gives_options xs 0 n rest e)
      ∙ ap (closed (λ t1. scan_from (length xs) t1 Amounts xs (0 + 3 + 2)) 0) (cond-false (ltb 56 n) _ (Ok t) (le-ltb 56 n few))
      ∙ reads_amounts m.amounts m.rules 0 (length xs) t (0 + 3 + 2) (after_field xs 0 1 (n / 256 ∷ n % 256 ∷ []) rest e) (omega arith) (omega arith) small (omega (arith, ruled)) fine

-- the limits, over the lists
small_all : (ys : List ℕ) → ((l : ℕ) → get_or ys l 0 < 2 ^ 32) → (zs : List ℕ) → Small zs ys
small_all [] h zs = tt
small_all (y ∷ ys) h zs = (h zero, small_all ys (λ l. h (suc l)) zs)

below_all : (m : ℕ) (ls : List ℕ) → Exist m ls → below m ls ≡ true
below_all m [] h = refl
below_all m (x ∷ ls) h = and_from (ltb x m) (below m ls) (lt-ltb x m (h zero (omega arith))) (below_all m ls (λ j k. h (suc j) (omega arith)))

fine_all : (m : ℕ) (rs : List (List ℕ)) → ((r : ℕ) → length (get_or rs r []) ≤ 24) → ((r : ℕ) → Exist m (get_or rs r [])) → (zs : List ℕ) → Fine zs m rs
fine_all m [] h k zs = tt
fine_all m (r ∷ rs) h k zs = (h zero, below_all m r (k zero), fine_all m rs (λ i. h (suc i)) (λ i. k (suc i)) zs)

pub reads_back : (m : Sound) → Limited (sound m) → parse (encode m) ≡ accepted m
reads_back m h =
    sym (same (encode m))
    ∙ reads_case (encode m) m refl h.few_options h.amount_each (small_all m.amounts h.small_amounts (encode m)) h.few_rules (fine_all (2 * m.options) m.rules h.short_rules h.literals_exist (encode m))
