-- The verdict on a wish layer, said of the choices below and the wishes that they break; from the wish layer's laws.
use Rattle.std.proofs.Common.{◌≡◌, ℕ, zero, suc, ◌+◌, ◌-◌, ◌*◌, ◌/◌, ◌%◌, ◌<◌, ◌≤◌, Bool, true, false, not, ◌&&◌, ◌||◌, eqb, leb, List, [], ◌∷◌, ◌++◌, map, length, get_or, sym, refl, ap, ◌∙◌, subst, ap₂, ⊎_elim, arith, length-append}
use lib.ListN.{length-map}
use Rattle.std.proofs.lemmas.List.{get_or_append_left, get_or-append-add, get_or-append_right, get_or-map, ext_get_or}
use Rattle.std.proofs.lemmas.Bool.{cases_lt, cases_Bool, both_ways, and_parts, leb-true, or_cases, or_left, or_right, not-true, ne_eqb, cond-false}
use Rattle.cases.specs.Literals.{Literals}
use Rattle.cases.specs.Choices.{sets, keeps, keeps_all}
use Rattle.cases.specs.Meanings.{Sound, sound, options_of}
use Rattle.cases.specs.Limits.{Limited}
use Rattle.cases.specs.Facts.Counted.{length-counted, counted_in}
use Rattle.charges.specs.Kinds.{Kind, Laws}
use Rattle.charges.specs.Charges.{price_of, charge_below, charge}
use Rattle.charges.proofs.Sets.{charge_part}
use Rattle.layers.specs.Readings.{is_on, first_options}
use Rattle.layers.specs.Facts.Layered.{where_sound}
use Rattle.layers.specs.Facts.Rows.{below_past}
use Rattle.layers.proofs.Keeping.{kept_left, kept_right, keeps_both, kept_at, keeps_each, kept_alike, sets_on}
use Rattle.wishes.specs.Wishes.{Wish, wish_reach, wish_rules, wish_amounts, wish_sound, wish_room, wishing}
use Rattle.wishes.specs.Facts.Wishes.{no_wish, length-wish_rules, get_or-wish_rules, get_or-wish_amounts, limited_wishing}
use Rattle.piles.proofs.WishCharges.{wish_charged}
use Rattle.readings.specs.Readings.{WishReadsDown, ChoiceKept, wish_charge}
use Rattle.readings.proofs.Lowering.{Lowers, says_below}

-- one literal more at the end of a rule
keeps_push : (S : Literals) (r : List ℕ) (l : ℕ) → keeps S (r ++ l ∷ []) ≡ (keeps S r || S l)
unfolding keeps
keeps_push S [] l = or_nothing (S l)
  where
    or_nothing : (b : Bool) → (b || false) ≡ b
    or_nothing true = refl
    or_nothing false = refl
keeps_push S (x ∷ r) l = ap (λ (b : Bool). S x || b) (keeps_push S r l) ∙ regroup (S x) (keeps S r) (S l)
  where
    regroup : (a b e : Bool) → (a || (b || e)) ≡ ((a || b) || e)
    regroup true b e = refl
    regroup false b e = refl

-- one rule, as a list of one
rule_alike : (S R : Literals) (r : List ℕ) → ((j : ℕ) → j < length r → S (get_or r j 255) ≡ R (get_or r j 255)) → keeps S r ≡ keeps R r
unfolding keeps_all
rule_alike S R r h = sym (and_true (keeps S r)) ∙ kept_alike S R (r ∷ []) each ∙ and_true (keeps R r)
  where
    and_true : (b : Bool) → (b && true) ≡ b
    and_true true = refl
    and_true false = refl

    each : (i j : ℕ) → j < length (get_or (r ∷ []) i []) → S (get_or (get_or (r ∷ []) i []) j 255) ≡ R (get_or (get_or (r ∷ []) i []) j 255)
    each zero j l = h j l
    each (suc i) j l = absurd (omega arith)

-- the literals of each wish are below every bound of the reach of all
in_reach : (ws : List Wish) (b : ℕ) → wish_reach ws ≤ b → (i j : ℕ) → j < length (get_or ws i no_wish).literals → get_or (get_or ws i no_wish).literals j 255 < b
in_reach [] b h i j l = absurd (omega arith)
in_reach (w ∷ ws) b h zero j l = below_past w.literals b (omega arith) j 255 l
in_reach (w ∷ ws) b h (suc i) j l = in_reach ws b (omega arith) i j l

-- a set whose literals lie in another, or are free, is charged not above it
module _ (K : Kind) (laws : Laws K) (s : Sound) (S R : Literals) where
  without_free : (k : ℕ) → ((x : ℕ) → x < k → S x ≡ true → R x ≡ false → price_of K s x ≡ K.zero) → charge_below K s k (λ x. S x && R x) ≡ charge_below K s k S
  unfolding charge_below
  without_free zero h = refl
  without_free (suc k) h =
      let ih = without_free k (λ x l. h x (omega arith)) in
      ⊎_elim
      (λ (p : S k ≡ true).
      ⊎_elim (λ (q : R k ≡ true). rw (p, q, ih)) (λ (q : R k ≡ false). rw (p, q, ih, h k (omega arith) p q) (sym (laws.neutral _))) (cases_Bool (R k)))
      (λ (p : S k ≡ false). rw (p, ih))
      (cases_Bool (S k))

  free_or_in : ((x : ℕ) → x < 2 * s.options → S x ≡ true → R x ≡ false → price_of K s x ≡ K.zero) → K.not_above (charge K s S) (charge K s R) ≡ true
  unfolding charge
  free_or_in h =
      subst (λ (a : K.charges). K.not_above a (charge K s R) ≡ true) (without_free (2 * s.options) h)
      (charge_part K laws s (λ x. S x && R x) R (λ x _ e. (and_parts (S x) (R x) e).1))

module _ (ws : List Wish) (s : Sound) (limited : Limited (sound s)) (reach : wish_reach ws ≤ 2 * s.options) where
  -- c begins as d does
  module _ (c d : List Bool) (same : (v : ℕ) → v < s.options → is_on c v ≡ is_on d v) where
    sets_same : (x : ℕ) → x < 2 * s.options → sets c x ≡ sets d x
    unfolding sets
    sets_same x l = rw (same (x / 2) (omega arith))

    kept_below : keeps_all (sets c) s.rules ≡ keeps_all (sets d) s.rules
    kept_below = kept_alike (sets c) (sets d) s.rules (λ i j l. sets_same _ (limited.literals_exist i j l))

    wish_kept : (i : ℕ) → i < length ws → keeps (sets c) (get_or (wish_rules s.options ws) i []) ≡ (keeps (sets d) (get_or ws i no_wish).literals || is_on c (s.options + i))
    wish_kept i l =
        let r = (get_or ws i no_wish).literals in
        let v = s.options + i in
        ap (keeps (sets c)) (get_or-wish_rules s.options ws i l)
        ∙ keeps_push (sets c) r (2 * v)
        ∙ ap₂ (λ (a b : Bool). a || b) (rule_alike (sets c) (sets d) r (λ j k. sets_same (get_or r j 255) (in_reach ws (2 * s.options) reach i j k))) (sets_on c v)

  broken : List Bool → Wish → Bool
  broken d w = not (keeps (sets d) w.literals)

  -- a choice below with the marks of exactly the wishes that it breaks
  marked : List Bool → List Bool
  marked d = d ++ map (broken d) ws

  module _ (d : List Bool) (whole : length d ≡ s.options) where
    begins : (v : ℕ) → v < s.options → is_on (marked d) v ≡ is_on d v
    unfolding marked
    begins v l = get_or_append_left d (map (broken d) ws) false v (omega arith)

    mark : (i : ℕ) → i < length ws → is_on (marked d) (s.options + i) ≡ not (keeps (sets d) (get_or ws i no_wish).literals)
    unfolding marked broken
    mark i l =
        ap (λ (n : ℕ). is_on (marked d) (n + i)) (sym whole)
        ∙ get_or-append-add d (map (broken d) ws) i false
        ∙ get_or-map (broken d) ws i no_wish false l

    length_marked : length (marked d) ≡ s.options + length ws
    unfolding marked
    length_marked = length-append d (map (broken d) ws) ∙ ap₂ (λ (a b : ℕ). a + b) whole (length-map ws (broken d))

    first : first_options s.options (marked d) ≡ d
    first =
        ext_get_or false (first_options s.options (marked d)) d (length-counted (is_on (marked d)) s.options ∙ sym whole)
        (λ v l.
        let k : v < s.options = rw (length-counted (is_on (marked d)) s.options) at l in
        counted_in (is_on (marked d)) s.options v false k ∙ begins v k)

    marked_kept : keeps_all (sets d) s.rules ≡ true → keeps_all (sets (marked d)) (wish_sound ws s).rules ≡ true
    marked_kept k =
        keeps_both (sets (marked d)) s.rules (wish_rules s.options ws) (kept_below (marked d) d begins ∙ k)
        (keeps_each (sets (marked d)) (wish_rules s.options ws)
        (λ i l.
        let j : i < length ws = rw (length-wish_rules s.options ws) at l in
        let r = (get_or ws i no_wish).literals in
        wish_kept (marked d) d begins i j
        ∙ ⊎_elim (λ (q : keeps (sets d) r ≡ true). or_left (keeps (sets d) r) (is_on (marked d) (s.options + i)) q)
        (λ (q : keeps (sets d) r ≡ false). or_right (keeps (sets d) r) (is_on (marked d) (s.options + i)) (mark i j ∙ ap not q))
        (cases_Bool (keeps (sets d) r))))

    module _ (K : Kind) (laws : Laws K) where
      marked_charged : charge K (wish_sound ws s) (sets (marked d)) ≡ wish_charge K (sound s) ws d
      marked_charged =
          wish_charged K laws ws s limited.amount_each (marked d) (λ i l. mark i l ∙ ap (λ (e : List Bool). not (keeps (sets e) (get_or ws i no_wish).literals)) (sym first))
          ∙ ap (wish_charge K (sound s) ws) first

      -- any choice of the layer that begins as d does and keeps the wishes' rules is charged no less
      module _ (c : List Bool) (same : (v : ℕ) → v < s.options → is_on c v ≡ is_on d v) (kept : keeps_all (sets c) (wish_rules s.options ws) ≡ true) where
        off_free : (x : ℕ) → 2 * s.options ≤ x → x % 2 ≡ 1 → price_of K (wish_sound ws s) x ≡ K.zero
        unfolding price_of
        off_free x l odd =
            let y = x - 2 * s.options in
            ap K.price
            (get_or-append_right s.amounts (wish_amounts ws) (2 * s.options) x 0 limited.amount_each l
            ∙ get_or-wish_amounts ws y
            ∙ cond-false (eqb (y % 2) 0) (get_or ws (y / 2) no_wish).amount 0 (ne_eqb (y % 2) 0 (λ z. omega arith)))
            ∙ laws.free

        on_needed : (i : ℕ) → i < length ws → is_on (marked d) (s.options + i) ≡ true → is_on c (s.options + i) ≡ true
        on_needed i l e =
            let r = (get_or ws i no_wish).literals in
            let k = kept_at (sets c) (wish_rules s.options ws) kept i (rw (length-wish_rules s.options ws) l) in
            ⊎_elim (λ (q : keeps (sets d) r ≡ true). absurd (both_ways (keeps (sets d) r) (not-true (keeps (sets d) r) (sym (mark i l) ∙ e)) q)) (λ q. q)
            (or_cases (keeps (sets d) r) (is_on c (s.options + i)) (sym (wish_kept c d same i l) ∙ k))

        need : (x : ℕ) → x < 2 * (s.options + length ws) → sets (marked d) x ≡ true → sets c x ≡ false → price_of K (wish_sound ws s) x ≡ K.zero
        need x l p q =
            ⊎_elim
            (λ (h : x < 2 * s.options).
            absurd (both_ways (sets c x) q (sets_same c d same x h ∙ sym (sets_same (marked d) d begins x h) ∙ p)))
            (λ (h : 2 * s.options ≤ x).
            ⊎_elim
            (λ (e : x % 2 < 1).
            let i = x / 2 - s.options in
            let at : x ≡ 2 * (s.options + i) = omega arith in
            let on = sym (sets_on (marked d) (s.options + i)) ∙ ap (sets (marked d)) (sym at) ∙ p in
            absurd (both_ways (sets c x) q (ap (sets c) at ∙ sets_on c (s.options + i) ∙ on_needed i (omega arith) on)))
            (λ (e : 1 ≤ x % 2). off_free x h (omega arith))
            (cases_lt (x % 2) 1))
            (cases_lt x (2 * s.options))

        not_above_layer : K.not_above (wish_charge K (sound s) ws d) (charge K (wish_sound ws s) (sets c)) ≡ true
        not_above_layer =
            subst (λ (a : K.charges). K.not_above a (charge K (wish_sound ws s) (sets c)) ≡ true) marked_charged (free_or_in K laws (wish_sound ws s) (sets (marked d)) (sets c) need)

  lowers : (K : Kind) → Laws K → Lowers K (sound (wish_sound ws s)) (first_options s.options) (ChoiceKept (sound s)) (wish_charge K (sound s) ws)
  lowers K laws =
      let n = s.options in
      let begin : (c : List Bool) (v : ℕ) → v < n → is_on c v ≡ is_on (first_options n c) v = λ c v l. sym (counted_in (is_on c) n v false l) in
      let whole : (c : List Bool) → length (first_options n c) ≡ n = λ c. length-counted (is_on c) n in
      record {
        fits = λ c k. record { whole = whole c; kept = sym (kept_below c (first_options n c) (begin c)) ∙ kept_left (sets c) s.rules (wish_rules n ws) k.kept };
        costs = λ c k. not_above_layer (first_options n c) (whole c) K laws c (begin c) (kept_right (sets c) s.rules (wish_rules n ws) k.kept);
        lifts = λ d f. (marked d, record { whole = length_marked d f.whole; kept = marked_kept d f.whole f.kept }, marked_charged d f.whole K laws);
      }

-- a layer with room has all literals of its wishes below it
reached : (ws : List Wish) (s : Sound) → wish_room ws s.options (length s.rules) ≡ true → wish_reach ws ≤ 2 * s.options
reached ws s e =
    let p = and_parts (leb (s.options + length ws) 56) _ e in
    let q = and_parts (leb (length s.rules + length ws) 512) (leb (wish_reach ws) (2 * s.options)) p.1 in
    leb-true (wish_reach ws) (2 * s.options) q.1

pub wish_reads_down : (K : Kind) → Laws K → WishReadsDown K
wish_reads_down K laws m limited ws held fine =
    says_below K laws (wishing ws m) (limited_wishing ws held m limited) (first_options (options_of m)) (ChoiceKept m) (wish_charge K m ws)
    (where_sound (wish_room ws) (wish_sound ws) (λ m t. Limited m → Lowers K t (first_options (options_of m)) (ChoiceKept m) (wish_charge K m ws)) (λ s e h. lowers ws s h (reached ws s e) K laws) m fine limited)
