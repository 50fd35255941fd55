-- Complements of literals, by arithmetic.
use Rattle.std.proofs.Common.{◌≡◌, ℕ, ◌*◌, ◌/◌, ◌%◌, ◌<◌, ◌⊎◌, sym, ap, ◌∙◌, inl, inr, ⊎_elim, arith}
use Rattle.std.proofs.lemmas.Bool.{cases_eq}
use Rattle.cases.specs.Literals.{complement}

pub complement_twice : (l : ℕ) → complement (complement l) ≡ l
unfolding complement
complement_twice l = omega arith

pub complement_range : (n l : ℕ) → l < 2 * n → complement l < 2 * n
unfolding complement
complement_range n l h = omega arith

pub complement_half : (l : ℕ) → complement l / 2 ≡ l / 2
unfolding complement
complement_half l = omega arith

pub complement_not_self : (l : ℕ) → complement l ≡ l → ⊥
unfolding complement
complement_not_self l = omega arith

pub complement_swap : (l x : ℕ) → complement x ≡ l → x ≡ complement l
complement_swap l x e = sym (complement_twice x) ∙ ap complement e

-- two literals of one option are the same or complements
pub same_option : (l x : ℕ) → l / 2 ≡ x / 2 → (l ≡ x) ⊎ (l ≡ complement x)
unfolding complement
same_option l x e = ⊎_elim (λ (h : l % 2 ≡ x % 2). inl (omega arith)) (λ (h : l % 2 ≡ x % 2 → ⊥). inr (omega arith)) (cases_eq (l % 2) (x % 2))
