-- The total of a list of literals, from the laws: a fold over it, the charge of its members, and that its order does not matter.
use Rattle.std.proofs.Common.{◌≡◌, ℕ, ◌<◌, true, false, eqb, List, [], ◌∷◌, sym, refl, ap, ◌∙◌, ⊎_elim, arith}
use Rattle.std.specs.List.{fold}
use Rattle.std.proofs.lemmas.Bool.{cases_Bool, eqb-true}
use Rattle.cases.specs.Meanings.{Sound}
use Rattle.cases.specs.Literals.{members}
use Rattle.charges.specs.Kinds.{Kind, Laws}
use Rattle.charges.specs.Charges.{price_of, charge, total, count, Once, OrderFree}
use Rattle.charges.proofs.Sums.{sum_swap}
use Rattle.charges.proofs.Sets.{charge_none, charge_insert}
use Rattle.charges.proofs.Counts.{count_here, count_past, without, count_without, none_counted, head_exists, head_new, tail_once}

module _ (K : Kind) (laws : Laws K) (s : Sound) where
  -- a fold from the left, from the charge a on
  pub total_fold : (a : K.charges) (ls : List ℕ) → fold (λ (c : K.charges) (l : ℕ). K.sum c (price_of K s l)) a ls ≡ K.sum a (total K s ls)
  unfolding total
  total_fold a [] = sym (laws.neutral a)
  total_fold a (l ∷ ls) = total_fold (K.sum a (price_of K s l)) ls ∙ laws.associative a (price_of K s l) (total K s ls)

  pub total_members : (ls : List ℕ) → Once s.options ls → total K s ls ≡ charge K s (members ls)
  unfolding total members
  total_members [] once = sym (charge_none K s)
  total_members (l ∷ ls) once =
      ap (K.sum (price_of K s l)) (total_members ls (tail_once s.options l ls once))
      ∙ sym (charge_insert K laws s l (members ls) (members (l ∷ ls)) (head_new s.options l ls once) (λ x. refl) (head_exists s.options l ls once))

  -- a literal may be taken to the front
  total_without : (l : ℕ) (ks : List ℕ) → 0 < count l ks → total K s ks ≡ K.sum (price_of K s l) (total K s (without l ks))
  unfolding total without count
  total_without l [] h = absurd (omega arith)
  total_without l (k ∷ ks) h =
      ⊎_elim (λ (e : eqb k l ≡ true). let same = eqb-true k l e in rw (e, same))
      (λ (e : eqb k l ≡ false).
      let some : 0 < count l ks = omega (arith, count_past l k ks e) in
      rw e (ap (K.sum (price_of K s k)) (total_without l ks some) ∙ sum_swap K laws (price_of K s k) (price_of K s l) (total K s (without l ks))))
      (cases_Bool (eqb k l))

  pub order_free : OrderFree K s
  unfolding total count
  order_free [] ks h = ap (total K s) (sym (none_counted ks (λ l. sym (h l))))
  order_free (l ∷ ls) ks h =
      let some : 0 < count l ks = omega (arith, h l, count_here l ls) in
      ap (K.sum (price_of K s l)) (order_free ls (without l ks) (λ x. omega (arith, h x, count_without l ks some x))) ∙ sym (total_without l ks some)
