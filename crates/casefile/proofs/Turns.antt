-- One turn of the file's loop.
use Rattle.std.proofs.Common.{◌≡◌, ℕ, zero, suc, pred, ◌+◌, ◌-◌, ◌*◌, ◌<◌, ◌≤◌, true, false, eqb, ltb, leb, List, [], ◌∷◌, ◌++◌, length, get_or, take, drop, Some, None, Ok, Err, Option, Result, sym, refl, ap, ◌∙◌, subst, arith}
use Rattle.std.proofs.lemmas.List.{length_push, length-take, length-drop, get_or-take, get_or-drop, get_or_default}
use Rattle.std.proofs.lemmas.Bool.{cond_both, ltb-false, both_ways}
use Rattle.std.specs.Result.{MatchResult, is_ok}
use Rattle.cases.specs.Meanings.{Sound}
use Rattle.casefile.specs.declared.field.Phase.{Phase}
use Rattle.casefile.specs.declared.field.Phase.TheVariants.{Start, Amounts, Rules, PastEnd}
use Rattle.casefile.specs.declared.fault.Fault.{Fault}
use Rattle.casefile.specs.declared.index.Index.{Index}
use Rattle.casefile.specs.declared.field.Field.{Field}
use Rattle.casefile.specs.Format.{size}
use Rattle.casefile.specs.Files.{below, raised, finished, Outcome, accepted, refused, parse, meant, is_accepted}
use Rattle.casefile.specs.Fields.{Item, options, amount, rule, ended, item, Given, gave, gave_nothing, faulty, given, next, PartOf, HandsOn}
use Rattle.casefile.specs.Inner.Scanning.{judged, closed, step, scan_from}
use Rattle.casefile.specs.Inner.Indexes.{Follows, Noted, Placed, Stands, Reach, Shows}
use Rattle.casefile.specs.Facts.Whole.{length-raised, padded_read}
use Rattle.casefile.specs.Facts.Reads.{Reads, Header, open_phase, reads}
use Rattle.casefile.specs.declared.fault.FileRefusal.{FileRefusal}

-- what one turn comes to, with the equations as the calls ensure them
turn : (f n : ℕ) (s : Sound) (p : Phase) (ys xs : List ℕ) (i : ℕ) (a : Given) → ys ≡ xs → n < f → a ≡ next p ys i
    → scan_from f s p xs i ≡ step (λ t r k. scan_from (pred f) t r xs k) s i a
turn zero n s p ys xs i a same h told = absurd (omega arith)
turn (suc f) n s p ys xs i a same h told = ap (step (λ t r k. scan_from f t r xs k) s i) (ap (λ (z : List ℕ). next p z i) (sym same) ∙ sym told)

module _ (f n : ℕ) (s : Sound) (p : Phase) (ys xs : List ℕ) (i : ℕ) (same : ys ≡ xs) (h : n < f) where
  pub refuse : (e : Fault) (place : ℕ) (q : Phase) (j : ℕ) → faulty e place q j ≡ next p ys i → scan_from f s p xs i ≡ refused e place
  refuse e place q j told = turn f n s p ys xs i (faulty e place q j) same h told

  pub ends : (q : Phase) (j : ℕ) → gave_nothing q j ≡ next p ys i → scan_from f s p xs i ≡ accepted (finished s)
  ends q j told = turn f n s p ys xs i (gave_nothing q j) same h told

  module _ (it : Item) (q : Phase) (j : ℕ) (told : gave it q j ≡ next p ys i) where
    abbrev on : Sound → Outcome
    on t = scan_from (pred f) t q xs j

    goes : scan_from f s p xs i ≡ closed on i (judged s it)
    goes = turn f n s p ys xs i (gave it q j) same h told

    pub erred : (e : Fault) → judged s it ≡ Err e → scan_from f s p xs i ≡ refused e i
    erred e was = goes ∙ ap (closed on i) was

    pub goes_on : (t : Sound) → judged s it ≡ Ok t → scan_from (pred f) t q xs j ≡ scan_from f s p xs i
    goes_on t was = sym (goes ∙ ap (closed on i) was)

-- what the index noted says what is judged
pub noted_ok : (xs : List ℕ) (v : Result Sound Fault) (r : Result (Unit {0}) Fault) (ix : Index) → true ≡ is_ok r → Noted xs v r ix → (t : Sound) × (v ≡ Ok t) × Follows xs ix t
noted_ok xs (Ok t) (Ok u) ix i h = (t, refl, h)
noted_ok xs (Err e) (Ok u) ix i h = absurd h
noted_ok xs v (Err e) ix i h = absurd (both_ways false refl (sym i))

pub noted_err : (xs : List ℕ) (v : Result Sound Fault) (r : Result (Unit {0}) Fault) (ix : Index) (q : FileRefusal) (i : ℕ) {P : Fault → Type 0}
    → MatchResult r (λ x. ◌≡◌ {A = Result (Unit {0}) FileRefusal} (Err q) (Ok x)) P → ((e : Fault) → P e → (q.fault ≡ e) × (q.place ≡ i)) → Noted xs v r ix → (v ≡ Err q.fault) × (q.place ≡ i)
noted_err xs v (Ok u) ix q i m g h = absurd (let z : ◌≡◌ {A = ℕ} 0 1 = cc in omega arith)
noted_err xs (Ok t) (Err e) ix q i m g h = absurd h
noted_err xs (Err f) (Err e) ix q i m g h = (ap Err (h ∙ sym (g e m).0), (g e m).1)

-- a field that is given lies within the file
pub moved : (p : Phase) (xs : List ℕ) (i : ℕ) (it : Item) (q : Phase) (j : ℕ) → Reads p xs i it q j → (i < j) × (j ≤ length xs)
moved p xs i (options n) q j r = (omega (arith, r.2.next_place), r.2.within)
moved p xs i (amount l a) q j r = (omega (arith, r.2.next_place), r.2.within)
moved p xs i (rule ls) q j r = (omega (arith, r.2.next_place), r.2.within)
moved p xs i ended q j r = (omega (arith, r.2.next_place), r.2.within)

-- a rule stands where its field was read
module _ (xs : List ℕ) (i : ℕ) (ls : List ℕ) (j : ℕ) (h : Header xs i 3 (size xs i) j) (is : take (size xs i) (drop (i + 3) xs) ≡ ls) where
  room : i + 3 + size xs i ≤ length xs
  room = omega (arith, h.next_place, h.within)

  as_long : length ls ≡ size xs i
  as_long = sym (ap length is) ∙ length-take (size xs i) (drop (i + 3) xs) ∙ rw (length-drop (i + 3) xs) (let r = room in omega arith)

  placed : size xs i ≤ 24 → Placed xs i ls
  placed short = record {
    inside = omega (arith, room, as_long);
    sized = omega (arith, as_long, ap (λ (k : ℕ). get_or xs k 0) (let e : i + 1 + 1 ≡ i + 2 = omega arith in e));
    same = λ k lt.
        let r = room in
        let l = as_long in
        sym (ap (λ (z : List ℕ). get_or z k 255) (sym is) ∙ get_or-take (size xs i) (drop (i + 3) xs) k 255 (omega arith) ∙ get_or-drop (i + 3) xs k 255 ∙ get_or_default xs (i + 3 + k) 255 0 (omega arith));
  }

  a_part : PartOf xs i (rule ls)
  a_part = (omega (arith, room, as_long), sym is ∙ ap (λ (n : ℕ). take n (drop (i + 3) xs)) (sym as_long))

pub stands : (p : Phase) (xs : List ℕ) (i : ℕ) (it : Item) (q : Phase) (j : ℕ) → Reads p xs i it q j → Stands xs i it
stands p xs i (options n) q j r = tt
stands p xs i (amount l a) q j r = tt
stands p xs i (rule ls) q j r = placed xs i ls j r.2 r.4 r.3
stands p xs i ended q j r = tt

part_of : (p : Phase) (xs : List ℕ) (i : ℕ) (it : Item) (q : Phase) (j : ℕ) → Reads p xs i it q j → PartOf xs i it
part_of p xs i (options n) q j r = tt
part_of p xs i (amount l a) q j r = tt
part_of p xs i (rule ls) q j r = a_part xs i ls j r.2 r.4
part_of p xs i ended q j r = tt

pub hands_on : (p : Phase) (xs : List ℕ) (i : ℕ) (r : Result (Option Field) FileRefusal) (q : Phase) (j : ℕ) → given r q j ≡ next p xs i → HandsOn xs i r
hands_on p xs i (Ok (Some f)) q j e = part_of p xs i (item f) q j (reads p xs i (item f) q j e)
hands_on p xs i (Ok None) q j e = tt
hands_on p xs i (Err f) q j e = tt

abbrev pub ReachBy : Phase → ℕ → Result Sound Fault → Type 0
ReachBy q j (Ok t) = Reach q t j
ReachBy q j (Err e) = Unit {0}

from_open : (p : Phase) (s : Sound) (i : ℕ) → open_phase p ≡ true → Reach p s i → i ≤ 5 + 8 * length s.amounts + 27 * length s.rules
from_open Start s i e h = absurd (let z : ◌≡◌ {A = ℕ} 0 1 = cc in omega arith)
from_open Amounts s i e h = h
from_open Rules s i e h = h
from_open PastEnd s i e h = absurd (let z : ◌≡◌ {A = ℕ} 0 1 = cc in omega arith)

pub reaches : (p : Phase) (xs : List ℕ) (i : ℕ) (it : Item) (q : Phase) (j : ℕ) (s : Sound) → Reads p xs i it q j → Reach p s i → ReachBy q j (judged s it)
reaches p xs i (options n) q j s r h =
    let z : i ≡ 0 = subst (λ (a : Phase). Reach a s i) r.0 h in
    cond_both (ltb 56 n) _ _ (ReachBy q j) (λ _. tt)
    (λ _. subst (λ (a : Phase). Reach a (record { options = n; amounts = []; rules = [] }) j) (sym r.1) (omega (arith, r.2.next_place)))
reaches p xs i (amount l a) q j s r h =
    let z : i ≤ 5 + 8 * length s.amounts + 27 * length s.rules = subst (λ (b : Phase). Reach b s i) r.0 h in
    cond_both (leb (2 * s.options) l) _ _ (ReachBy q j) (λ _. tt)
    (λ _. cond_both (ltb l (length s.amounts)) _ _ (ReachBy q j) (λ _. tt)
    (λ e. cond_both (eqb a 0) _ _ (ReachBy q j) (λ _. tt)
    (λ _. let up : length s.amounts ≤ l = ltb-false l (length s.amounts) e in
    subst (λ (b : Phase). Reach b (record { options = s.options; amounts = raised s.amounts l a; rules = s.rules }) j) (sym r.1) (omega (arith, r.2.next_place, length-raised s.amounts l a up)))))
reaches p xs i (rule ls) q j s r h =
    let z : i ≤ 5 + 8 * length s.amounts + 27 * length s.rules = from_open p s i r.0 h in
    cond_both (leb 512 (length s.rules)) _ _ (ReachBy q j) (λ _. tt)
    (λ _. cond_both (below (2 * s.options) ls) _ _ (ReachBy q j)
    (λ _. subst (λ (b : Phase). Reach b (record { options = s.options; amounts = s.amounts; rules = s.rules ++ ls ∷ [] }) j) (sym r.1) (omega (arith, r.2.next_place, r.3, length_push s.rules ls)))
    (λ _. tt))
reaches p xs i ended q j s r h = subst (λ (b : Phase). Reach b s j) (sym r.1) tt

-- an index shows the finished meaning too
pub shows_finished : (xs : List ℕ) (ix : Index) (s : Sound) → Shows xs ix s → Shows xs ix (finished s)
shows_finished xs ix s h = record {
  counted = h.counted;
  ruled = h.ruled;
  priced = λ l. h.priced l ∙ sym (padded_read s.amounts (2 * s.options - length s.amounts) l);
  inside = h.inside;
  sized = h.sized;
  same = h.same;
}

pub accepted_shows : (xs : List ℕ) (ix : Index) (s : Sound) → parse xs ≡ accepted (finished s) → Shows xs ix s → (is_accepted (parse xs) ≡ true) × Shows xs ix (meant (parse xs))
accepted_shows xs ix s e h = (ap is_accepted e, subst (λ (o : Outcome). Shows xs ix (meant o)) (sym e) (shows_finished xs ix s h))
