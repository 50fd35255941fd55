-- A choice of the wish layer is charged what its first options are, and then wish by wish.
use Rattle.std.proofs.Common.{◌≡◌, ℕ, zero, suc, ◌+◌, ◌-◌, ◌*◌, ◌/◌, ◌<◌, Bool, true, false, not, List, [], ◌∷◌, length, get_or, sym, refl, ap, ◌∙◌, subst, ⊎_elim, arith}
use Rattle.std.proofs.lemmas.Bool.{cases_Bool}
use Rattle.std.proofs.lemmas.List.{get_or_append_left, get_or-append_right}
use Rattle.cases.specs.Literals.{Literals}
use Rattle.cases.specs.Choices.{sets, keeps}
use Rattle.cases.specs.Meanings.{Sound}
use Rattle.cases.specs.Facts.Counted.{counted_in}
use Rattle.charges.specs.Kinds.{Kind, Laws}
use Rattle.charges.specs.Charges.{price_of, charge_below, charge}
use Rattle.charges.proofs.Sets.{charge_same_below}
use Rattle.layers.specs.Readings.{first_options, is_on}
use Rattle.wishes.specs.Wishes.{Wish, wish_amounts, wish_sound}
use Rattle.wishes.specs.Facts.Wishes.{no_wish}
use Rattle.piles.specs.Charged.{broken_prices, WishCharged}
use Rattle.piles.proofs.Pairs.{sets_on, charge_pair}

-- cases of equal prices below k charge alike below k
same_prices : (K : Kind) (s t : Sound) (k : ℕ) (S : Literals) → ((x : ℕ) → x < k → price_of K s x ≡ price_of K t x) → charge_below K s k S ≡ charge_below K t k S
unfolding charge_below
same_prices K s t zero S h = refl
same_prices K s t (suc k) S h = rw (h k (omega arith), same_prices K s t k S (λ x l. h x (omega arith)))

-- the options from v on, one for each wish
module _ (K : Kind) (laws : Laws K) (o : Sound) (S R : Literals) where
  wish_by_wish : (v : ℕ) (ws : List Wish) → ((j : ℕ) → get_or o.amounts (2 * v + j) 0 ≡ get_or (wish_amounts ws) j 0)
      → ((i : ℕ) → i < length ws → S (2 * (v + i)) ≡ not (keeps R (get_or ws i no_wish).literals))
      → charge_below K o (2 * (v + length ws)) S ≡ K.sum (charge_below K o (2 * v) S) (broken_prices K R ws)
  unfolding broken_prices price_of
  wish_by_wish v [] amount marks = let e : v + 0 ≡ v = omega arith in rw e (sym (laws.neutral _))
  wish_by_wish v (w ∷ ws) amount marks =
      let e : v + suc (length ws) ≡ v + 1 + length ws = omega arith in
      let z : 2 * v + 0 ≡ 2 * v = omega arith in
      let on_price : price_of K o (2 * v) ≡ K.price w.amount = ap K.price (subst (λ (x : ℕ). get_or o.amounts x 0 ≡ w.amount) z (amount 0)) in
      let off_price : price_of K o (2 * v + 1) ≡ K.zero = ap K.price (amount 1) ∙ laws.free in
      let y : v + 0 ≡ v = omega arith in
      let mark : S (2 * v) ≡ not (keeps R w.literals) = subst (λ (x : ℕ). S (2 * x) ≡ not (keeps R w.literals)) y (marks 0 (omega arith)) in
      let rest = wish_by_wish (v + 1) ws
      (λ j. let p : 2 * (v + 1) + j ≡ 2 * v + suc (suc j) = omega arith in rw p (amount (suc (suc j))))
      (λ i l. let p : v + 1 + i ≡ v + suc i = omega arith in rw p (marks (suc i) (omega arith))) in
      ap (λ (n : ℕ). charge_below K o (2 * n) S) e ∙ rest
      ∙ ap (λ (a : K.charges). K.sum a (broken_prices K R ws)) (charge_pair K laws o v S off_price)
      ∙ ⊎_elim (λ (k : keeps R w.literals ≡ true). rw (mark, k))
      (λ (k : keeps R w.literals ≡ false). rw (mark, k, on_price) (laws.associative _ _ _)) (cases_Bool (keeps R w.literals))

module _ (K : Kind) (laws : Laws K) (ws : List Wish) (s : Sound) (full : length s.amounts ≡ 2 * s.options) where
  first_prices : (x : ℕ) → x < 2 * s.options → price_of K (wish_sound ws s) x ≡ price_of K s x
  unfolding price_of
  first_prices x h = ap K.price (get_or_append_left s.amounts (wish_amounts ws) 0 x (omega arith))

  wish_prices : (j : ℕ) → get_or (wish_sound ws s).amounts (2 * s.options + j) 0 ≡ get_or (wish_amounts ws) j 0
  wish_prices j =
      let q : 2 * s.options + j - 2 * s.options ≡ j = omega arith in
      get_or-append_right s.amounts (wish_amounts ws) (2 * s.options) (2 * s.options + j) 0 full (omega arith) ∙ ap (λ (n : ℕ). get_or (wish_amounts ws) n 0) q

  -- the first options set what the choice sets
  first_sets : (c : List Bool) (x : ℕ) → x < 2 * s.options → sets c x ≡ sets (first_options s.options c) x
  unfolding sets
  first_sets c x h = let e = counted_in (is_on c) s.options (x / 2) false (omega arith) in rw e

  pub wish_charged : WishCharged K ws s
  unfolding charge
  wish_charged c marks =
      let n = s.options in
      wish_by_wish K laws (wish_sound ws s) (sets c) (sets (first_options n c)) n ws wish_prices (λ i l. sets_on c (n + i) ∙ marks i l)
      ∙ ap (λ (a : K.charges). K.sum a (broken_prices K (sets (first_options n c)) ws))
      (same_prices K (wish_sound ws s) s (2 * n) (sets c) first_prices ∙ charge_same_below K s (2 * n) (sets c) (sets (first_options n c)) (first_sets c))
