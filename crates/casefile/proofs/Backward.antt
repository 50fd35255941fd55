-- An accepted file written again has equal bytes.
use Rattle.std.proofs.Common.{◌≡◌, ℕ, zero, suc, ◌+◌, ◌-◌, ◌*◌, ◌≤◌, true, false, eqb, ltb, leb, List, [], ◌∷◌, ◌++◌, length, drop, replicate, Err, Result, sym, refl, ap, ◌∙◌, subst, ap₂, arith}
use Rattle.std.proofs.lemmas.List.{append_assoc, append-nil, drop_all}
use Rattle.std.proofs.lemmas.Bool.{cond_both, cond-false, ltb-false, both_ways}
use Rattle.cases.specs.Meanings.{Sound}
use Rattle.casefile.specs.declared.field.Phase.{Phase}
use Rattle.casefile.specs.declared.field.Phase.TheVariants.{Start, Amounts, Rules, PastEnd}
use Rattle.casefile.specs.declared.fault.Fault.{Fault}
use Rattle.casefile.specs.Format.{Octets}
use Rattle.casefile.specs.Files.{zero_amount, below, blank, raised, finished, Outcome, accepted, refused, parse}
use Rattle.casefile.specs.Fields.{options, amount, rule, ended, Given, gave, gave_nothing, faulty, next}
use Rattle.casefile.specs.Inner.Scanning.{closed, step, scan_from}
use Rattle.casefile.specs.Facts.Whole.{length-raised}
use Rattle.casefile.specs.Facts.Reads.{Right, right, open_phase}
use Rattle.casefile.specs.Facts.Same.{same}
use Rattle.casefile.specs.Bytes.{field, options_field, amount_field, charge_field, amount_fields, rule_fields, encode}
use Rattle.casefile.proofs.Pieces.{piece, amounts_zeros, amounts_nothing}

abbrev Quiet : Phase → List ℕ → Type 0
Quiet Start ys = Unit {0}
Quiet Amounts ys = Unit {0}
Quiet Rules ys = ys ≡ []
Quiet PastEnd ys = Unit {0}

-- what is left of the file is what is left of the meaning
record Rest (p : Phase) (s m : Sound) (xs : List ℕ) (i : ℕ) : Type 0 where
  more : List ℕ
  last : List (List ℕ)
  count_is : m.options ≡ s.options
  amounts_are : m.amounts ≡ s.amounts ++ more
  rules_are : m.rules ≡ s.rules ++ last
  bytes : drop i xs ≡ amount_fields (length s.amounts) more ++ (rule_fields last ++ field 4 [])
  quiet : Quiet p (amount_fields (length s.amounts) more)

never : (e : Fault) (i : ℕ) (m : Sound) → refused e i ≡ accepted m → ⊥
never e i m h = let z : ◌≡◌ {A = ℕ} 0 1 = cc in omega arith

quiet_any : (p : Phase) (ys : List ℕ) → ys ≡ [] → Quiet p ys
quiet_any Start ys e = tt
quiet_any Amounts ys e = tt
quiet_any Rules ys e = e
quiet_any PastEnd ys e = tt

module _ (xs : List ℕ) (o : Octets xs) (m : Sound) where
  -- after an amount
  after_amount : (s : Sound) (i l a j : ℕ) → length s.amounts ≤ l → eqb a 0 ≡ false → drop i xs ≡ amount_field l a ++ drop j xs
      → Rest Amounts (record { options = s.options; amounts = raised s.amounts l a; rules = s.rules }) m xs j → Rest Amounts s m xs i
  after_amount s i l a j up nz e h =
      let k : ℕ = l - length s.amounts in
      let zs : List ℕ = replicate k zero_amount in
      let tail : List ℕ = rule_fields h.last ++ field 4 [] in
      let pay : amount_fields (length s.amounts) (zs ++ (a ∷ h.more)) ≡ amount_field l a ++ amount_fields (length (raised s.amounts l a)) h.more =
      amounts_zeros (length s.amounts) k (a ∷ h.more)
      ∙ ap (λ (n : ℕ). charge_field n a ++ amount_fields (n + 1) h.more) (let e1 : length s.amounts + k ≡ l = omega arith in e1)
      ∙ ap₂ (λ (y : List ℕ) (n : ℕ). y ++ amount_fields n h.more) (cond-false (eqb a 0) [] (amount_field l a) nz) (sym (length-raised s.amounts l a up)) in
      record {
        more = zs ++ (a ∷ h.more);
        last = h.last;
        count_is = h.count_is;
        amounts_are = h.amounts_are ∙ append_assoc s.amounts (zs ++ a ∷ []) h.more ∙ ap (λ (z : List ℕ). s.amounts ++ z) (append_assoc zs (a ∷ []) h.more);
        rules_are = h.rules_are;
        bytes = e ∙ ap (λ (z : List ℕ). amount_field l a ++ z) h.bytes ∙ sym (append_assoc (amount_field l a) (amount_fields (length (raised s.amounts l a)) h.more) tail) ∙ ap (λ (z : List ℕ). z ++ tail) (sym pay);
        quiet = tt;
      }

  -- after a rule
  after_rule : (p : Phase) (s : Sound) (i : ℕ) (ls : List ℕ) (j : ℕ) → drop i xs ≡ field 3 ls ++ drop j xs
      → Rest Rules (record { options = s.options; amounts = s.amounts; rules = s.rules ++ ls ∷ [] }) m xs j → Rest p s m xs i
  after_rule p s i ls j e h =
      let tail : List ℕ = rule_fields h.last ++ field 4 [] in
      let nothing : amount_fields (length s.amounts) h.more ≡ [] = h.quiet in
      record {
        more = h.more;
        last = ls ∷ h.last;
        count_is = h.count_is;
        amounts_are = h.amounts_are;
        rules_are = h.rules_are ∙ append_assoc s.rules (ls ∷ []) h.last;
        bytes = e ∙ ap (λ (z : List ℕ). field 3 ls ++ z) (h.bytes ∙ ap (λ (z : List ℕ). z ++ tail) nothing)
            ∙ sym (append_assoc (field 3 ls) (rule_fields h.last) (field 4 []))
            ∙ ap (λ (z : List ℕ). z ++ (rule_fields (ls ∷ h.last) ++ field 4 [])) (sym nothing);
        quiet = quiet_any p (amount_fields (length s.amounts) h.more) nothing;
      }

  -- at the end
  at_end : (p : Phase) (s : Sound) (i j : ℕ) → length xs ≤ j → drop i xs ≡ field 4 [] ++ drop j xs → finished s ≡ m → Rest p s m xs i
  at_end p s i j h e w =
      let k : ℕ = 2 * s.options - length s.amounts in
      let nothing = amounts_nothing (length s.amounts) k in
      record {
        more = replicate k zero_amount;
        last = [];
        count_is = ap (λ (z : Sound). z.options) (sym w);
        amounts_are = ap (λ (z : Sound). z.amounts) (sym w);
        rules_are = ap (λ (z : Sound). z.rules) (sym w) ∙ sym (append-nil s.rules);
        bytes = e ∙ ap (λ (z : List ℕ). field 4 [] ++ z) (drop_all j xs h) ∙ ap (λ (z : List ℕ). z ++ field 4 []) (sym nothing);
        quiet = quiet_any p (amount_fields (length s.amounts) (replicate k zero_amount)) nothing;
      }

  -- what is left where the reader stands
  abbrev Left : Phase → Sound → ℕ → Type 0
  Left Start s i = Unit {0}
  Left Amounts s i = Rest Amounts s m xs i
  Left Rules s i = Rest Rules s m xs i
  Left PastEnd s i = (length xs ≤ i) × (finished s ≡ m)

  -- one field among the amounts or the rules
  module _ (k : Sound → Phase → ℕ → Outcome) (ih : (t : Sound) (q : Phase) (j : ℕ) → k t q j ≡ accepted m → Left q t j) where
    abbrev Gives : Phase → Sound → ℕ → Phase → ℕ → Result Sound Fault → Type 0
    Gives p s i q j v = closed (λ t. k t q j) i v ≡ accepted m → Rest p s m xs i

    fails : (p : Phase) (s : Sound) (i : ℕ) (q : Phase) (j : ℕ) (e : Fault) → Gives p s i q j (Err e)
    fails p s i q j e h = absurd (never e i m h)

    -- the phase after the field is known
    left : (t : Sound) (q w : Phase) (j : ℕ) → q ≡ w → k t q j ≡ accepted m → Left w t j
    left t q w j e h = subst (λ (z : Phase). Left z t j) e (ih t q j h)

    one : (s : Sound) (p : Phase) (i : ℕ) → open_phase p ≡ true → (g : Given) → Right p xs i g → step k s i g ≡ accepted m → Rest p s m xs i
    one s p i live (gave (options n) q j) r = absurd (both_ways (open_phase p) (ap open_phase r.0) live)
    one s p i live (gave (amount l a) q j) r =
        cond_both (leb (2 * s.options) l) _ _ (Gives p s i q j) (λ _. fails p s i q j _)
        (λ _. cond_both (ltb l (length s.amounts)) _ _ (Gives p s i q j) (λ _. fails p s i q j _)
        (λ up. cond_both (eqb a 0) _ _ (Gives p s i q j) (λ _. fails p s i q j _)
        (λ nz h.
        let t : Sound = record { options = s.options; amounts = raised s.amounts l a; rules = s.rules } in
        subst (λ (z : Phase). Rest z s m xs i) (sym r.0)
        (after_amount s i l a j (ltb-false l (length s.amounts) up) nz (piece xs o i p (amount l a) q j r) (left t q Amounts j r.1 h)))))
    one s p i live (gave (rule ls) q j) r =
        cond_both (leb 512 (length s.rules)) _ _ (Gives p s i q j) (λ _. fails p s i q j _)
        (λ _. cond_both (below (2 * s.options) ls) _ _ (Gives p s i q j)
        (λ _ h.
        let t : Sound = record { options = s.options; amounts = s.amounts; rules = s.rules ++ ls ∷ [] } in
        after_rule p s i ls j (piece xs o i p (rule ls) q j r) (left t q Rules j r.1 h))
        (λ _. fails p s i q j _))
    one s p i live (gave ended q j) r = λ h.
        let w = left s q PastEnd j r.1 h in
        at_end p s i j w.0 (piece xs o i p ended q j r) w.1
    one s p i live (gave_nothing q j) r = absurd (both_ways (open_phase p) (ap open_phase r.0) live)
    one s p i live (faulty e place q j) r = λ h. absurd (never e place m h)

    -- past the end
    last : (s : Sound) (i : ℕ) (g : Given) → Right PastEnd xs i g → step k s i g ≡ accepted m → Left PastEnd s i
    last s i (gave (options n) q j) r h = absurd (let z : ◌≡◌ {A = ℕ} 0 1 = cc r.0 in omega arith)
    last s i (gave (amount l a) q j) r h = absurd (let z : ◌≡◌ {A = ℕ} 0 1 = cc r.0 in omega arith)
    last s i (gave (rule ls) q j) r h = absurd (both_ways false refl r.0)
    last s i (gave ended q j) r h = absurd (both_ways false refl r.0)
    last s i (gave_nothing q j) r h = (r.1, cc)
    last s i (faulty e place q j) r h = absurd (never e place m h)

  rest : (f : ℕ) (s : Sound) (p : Phase) (i : ℕ) → scan_from f s p xs i ≡ accepted m → Left p s i
  rest zero s p i h = absurd (never _ _ m h)
  rest (suc f) s Start i h = tt
  rest (suc f) s Amounts i h = one (λ t q j. scan_from f t q xs j) (rest f) s Amounts i refl (next Amounts xs i) (right xs i Amounts) h
  rest (suc f) s Rules i h = one (λ t q j. scan_from f t q xs j) (rest f) s Rules i refl (next Rules xs i) (right xs i Rules) h
  rest (suc f) s PastEnd i h = last (λ t q j. scan_from f t q xs j) (rest f) s i (next PastEnd xs i) (right xs i PastEnd) h

  -- the options, and then the rest
  first : (f i : ℕ) (g : Given) → Right Start xs i g → step (λ t q j. scan_from f t q xs j) blank i g ≡ accepted m → drop i xs ≡ encode m
  first f i (gave (options n) q j) r =
      cond_both (ltb 56 n) _ _ (λ (v : Result Sound Fault). closed (λ t. scan_from f t q xs j) i v ≡ accepted m → drop i xs ≡ encode m) (λ _ h. absurd (never _ _ m h))
      (λ _ h.
      let t : Sound = record { options = n; amounts = []; rules = [] } in
      let w = left (λ u q1 j1. scan_from f u q1 xs j1) (rest f) t q Amounts j r.1 h in
      piece xs o i Start (options n) q j r
      ∙ ap₂ (λ (y : ℕ) (z : List ℕ). options_field y ++ z) (sym w.count_is)
      (w.bytes ∙ ap₂ (λ (y : List ℕ) (z : List (List ℕ)). amount_fields 0 y ++ (rule_fields z ++ field 4 [])) (sym w.amounts_are) (sym w.rules_are)))
  first f i (gave (amount l a) q j) r = λ h. absurd (let z : ◌≡◌ {A = ℕ} 0 1 = cc r.0 in omega arith)
  first f i (gave (rule ls) q j) r = λ h. absurd (both_ways false refl r.0)
  first f i (gave ended q j) r = λ h. absurd (both_ways false refl r.0)
  first f i (gave_nothing q j) r = λ h. absurd (let z : ◌≡◌ {A = ℕ} 0 1 = cc r.0 in omega arith)
  first f i (faulty e place q j) r = λ h. absurd (never _ _ m h)

pub written_again : (xs : List ℕ) (m : Sound) → Octets xs → parse xs ≡ accepted m → encode m ≡ xs
written_again xs m o h = sym (first xs o m (length xs) 0 (next Start xs 0) (right xs 0 Start) (same xs ∙ h))
