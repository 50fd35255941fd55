-- The sum of the prices of the literals of a trail, which has none twice, is the charge of the set of them.
use Rattle.std.proofs.Common.{◌≡◌, ℕ, ◌*◌, ◌<◌, ◌≤◌, Bool, false, ◌||◌, eqb, List, [], ◌∷◌, ◌++◌, length, sym, refl, ap, ◌∙◌, ⊎_elim, arith}
use lib.ListN.{get_or-eq_default}
use Rattle.std.proofs.lemmas.Bool.{cases_lt, ne_eqb}
use Rattle.cases.specs.Meanings.{Sound}
use Rattle.charges.specs.Kinds.{Kind, Laws}
use Rattle.charges.specs.Charges.{price_of, charge, total}
use Rattle.charges.proofs.Sums.{zero_first}
use Rattle.charges.proofs.Sets.{charge_same, charge_none, charge_insert}
use Rattle.calculus.specs.Trails.{Entry, Trail, on}
use Rattle.calculus.proofs.Trails.{Distinct}
use Rattle.trails.specs.Entries.{literals_in}

module _ (K : Kind) (laws : Laws K) (m : Sound) where
  -- one literal more at the end
  total_last : (ls : List ℕ) (l : ℕ) → total K m (ls ++ (l ∷ [])) ≡ K.sum (price_of K m l) (total K m ls)
  unfolding total
  total_last [] l = refl
  total_last (x ∷ ls) l =
      ap (K.sum (price_of K m x)) (total_last ls l) ∙ sym (laws.associative _ _ _) ∙ ap (λ (c : K.charges). K.sum c (total K m ls)) (laws.commutative _ _)
      ∙ laws.associative _ _ _

  -- a literal that the case does not have is free
  price_past : length m.amounts ≡ 2 * m.options → (l : ℕ) → 2 * m.options ≤ l → price_of K m l ≡ K.zero
  unfolding price_of
  price_past each l h = ap K.price (get_or-eq_default m.amounts 0 (rw each h)) ∙ laws.free

  on_none : (x : ℕ) → false ≡ on [] x
  unfolding on
  on_none x = refl

  on_more : (e : Entry) (t : Trail) (x : ℕ) → on (e ∷ t) x ≡ (eqb e.literal x || on t x)
  unfolding on
  on_more e t x = refl

  pub trail_total : length m.amounts ≡ 2 * m.options → (n : ℕ) (t : Trail) → Distinct n t → total K m (literals_in t) ≡ charge K m (on t)
  unfolding literals_in total
  trail_total each n [] d = sym (charge_none K m) ∙ charge_same K m (λ _. false) (on []) (λ x _. on_none x)
  trail_total each n (e ∷ t) d =
      total_last (literals_in t) e.literal ∙ ap (K.sum (price_of K m e.literal)) (trail_total each n t d.1)
      ∙ ⊎_elim
      (λ (h : e.literal < 2 * m.options). sym (charge_insert K laws m e.literal (on t) (on (e ∷ t)) d.0.not_set (on_more e t) h))
      (λ (h : 2 * m.options ≤ e.literal).
      ap (λ (c : K.charges). K.sum c (charge K m (on t))) (price_past each e.literal h) ∙ zero_first K laws (charge K m (on t))
      ∙ charge_same K m (on t) (on (e ∷ t)) (λ x l. sym (on_more e t x ∙ ap (λ (b : Bool). b || on t x) (ne_eqb e.literal x (λ z. omega arith)))))
      (cases_lt e.literal (2 * m.options))
