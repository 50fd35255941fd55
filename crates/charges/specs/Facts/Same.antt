-- Charges with equal numbers are equal, since the fact that a number fits has one proof.
use Rattle.std.specs.Prelude.{◌≡◌, ℕ, ◌^◌, ◌<◌}
use Rattle.std.proofs.Common.{ap, subst, ◌∙◌}
use Rattle.std.proofs.Math.Bridge.{le_prop}
use Rattle.charges.specs.declared.kinds.Sum.{Sum}
use Rattle.charges.specs.declared.kinds.Ranked.{Ranked}

-- what is made of a number below a limit is the same for equal numbers
same_made : {X : Type 0} (limit : ℕ) (make : (n : ℕ) → n < limit → X) (m n : ℕ) (p : m < limit) (q : n < limit) → m ≡ n → make m p ≡ make n q
same_made limit make m n p q e = subst (λ (k : ℕ). (r : k < limit) → make m p ≡ make k r) e (λ r. ap (make m) (le_prop p r)) q

pub sum_same : (a b : Sum) → a.value ≡ b.value → a ≡ b
sum_same a b e = same_made (2 ^ 64) (λ n h. record { value = n; fits = h }) a.value b.value a.fits b.fits e

pub ranked_same : (a b : Ranked) → a.lost ≡ b.lost → a.pence ≡ b.pence → a ≡ b
ranked_same a b e d =
    same_made (2 ^ 32) (λ n h. record { lost = n; pence = a.pence; lost_fits = h; pence_fits = a.pence_fits }) a.lost b.lost a.lost_fits b.lost_fits e
    ∙ same_made (2 ^ 32) (λ n h. record { lost = b.lost; pence = n; lost_fits = b.lost_fits; pence_fits = h }) a.pence b.pence a.pence_fits b.pence_fits d
