-- A choice of the open layer is charged what it reads down to is: mark by mark.
use Rattle.std.proofs.Common.{◌≡◌, ℕ, zero, suc, ◌+◌, ◌*◌, ◌/◌, ◌%◌, ◌<◌, ◌≤◌, Bool, ◌&&◌, eqb, List, get_or, sym, refl, ap, ◌∙◌, arith}
use Rattle.std.proofs.lemmas.Bool.{eq-eqb, ne_eqb, lt-ltb, cond-true, cond-false}
use Rattle.cases.specs.Choices.{sets}
use Rattle.cases.specs.Meanings.{Sound}
use Rattle.cases.specs.Facts.Counted.{counted_in}
use Rattle.charges.specs.Kinds.{Kind, Laws}
use Rattle.charges.specs.Charges.{price_of, charge_below, charge}
use Rattle.layers.specs.Opens.{open_sound, mark_amount}
use Rattle.layers.specs.Readings.{read_down, is_on}
use Rattle.piles.specs.Charged.{OpenCharged}
use Rattle.piles.proofs.Pairs.{sets_on, charge_pair}

module _ (K : Kind) (laws : Laws K) (s : Sound) (c : List Bool) where
  marked : (l : ℕ) → l < 2 * (2 * s.options) → price_of K (open_sound s) l ≡ K.price (mark_amount s.amounts l)
  unfolding price_of
  marked l h = ap K.price (counted_in (mark_amount s.amounts) (2 * (2 * s.options)) l 0 h)

  price_on : (l : ℕ) → l < 2 * s.options → price_of K (open_sound s) (2 * l) ≡ price_of K s l
  unfolding price_of
  price_on l h =
      let e : 2 * l % 2 ≡ 0 = omega arith in
      let d : 2 * l / 2 ≡ l = omega arith in
      marked (2 * l) (omega arith)
      ∙ ap K.price (cond-true (eqb (2 * l % 2) 0) (get_or s.amounts (2 * l / 2) 0) 0 (eq-eqb (2 * l % 2) 0 e) ∙ ap (λ (n : ℕ). get_or s.amounts n 0) d)

  price_off : (l : ℕ) → l < 2 * s.options → price_of K (open_sound s) (2 * l + 1) ≡ K.zero
  unfolding price_of
  price_off l h =
      let e : (2 * l + 1) % 2 ≡ 1 = omega arith in
      marked (2 * l + 1) (omega arith)
      ∙ ap K.price (cond-false (eqb ((2 * l + 1) % 2) 0) (get_or s.amounts ((2 * l + 1) / 2) 0) 0 (ne_eqb ((2 * l + 1) % 2) 0 (λ z. omega arith))) ∙ laws.free

  read : (l : ℕ) → l < 2 * s.options → sets c (2 * l) ≡ read_down s.options c l
  unfolding read_down
  read l h = sets_on c l ∙ sym (ap (λ (b : Bool). b && is_on c l) (lt-ltb l (2 * s.options) h))

  so_far : (k : ℕ) → k ≤ 2 * s.options → charge_below K (open_sound s) (2 * k) (sets c) ≡ charge_below K s k (read_down s.options c)
  unfolding charge_below
  so_far zero h = refl
  so_far (suc k) h =
      let l : k < 2 * s.options = omega arith in
      let e : 2 * suc k ≡ 2 * (k + 1) = omega arith in
      ap (λ (n : ℕ). charge_below K (open_sound s) n (sets c)) e
      ∙ charge_pair K laws (open_sound s) k (sets c) (price_off k l)
      ∙ rw (read k l, so_far k (omega arith), price_on k l)

pub open_charged : (K : Kind) → Laws K → (s : Sound) → OpenCharged K s
unfolding charge
open_charged K laws s c = so_far K laws s c (2 * s.options) (omega arith)
