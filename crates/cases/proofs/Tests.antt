-- Tests of truth values and of numbers, and the literals of one option.
use Rattle.std.proofs.Common.{◌≡◌, ℕ, ◌+◌, ◌*◌, Bool, true, false, not, eqb, [], sym, refl, ◌∙◌, ⊎_elim, arith}
use mathlib.Core.Bool.{beq}
use Rattle.std.proofs.lemmas.Bool.{cases_eq, eq-eqb, ne_eqb}
use Rattle.cases.specs.Literals.{complement, members}

pub beq_true : (b : Bool) → beq b true ≡ b
beq_true true = refl
beq_true false = refl

pub beq_false : (b : Bool) → beq b false ≡ not b
beq_false true = refl
beq_false false = refl

pub eqb_swap : (a b : ℕ) → eqb a b ≡ eqb b a
eqb_swap a b = ⊎_elim (λ (e : a ≡ b). eq-eqb a b e ∙ sym (eq-eqb b a (sym e))) (λ (e : a ≡ b → ⊥). ne_eqb a b e ∙ sym (ne_eqb b a (λ z. e (sym z)))) (cases_eq a b)

pub complement_on : (v : ℕ) → complement (2 * v) ≡ 2 * v + 1
unfolding complement
complement_on v = omega arith

pub complement_off : (v : ℕ) → complement (2 * v + 1) ≡ 2 * v
unfolding complement
complement_off v = omega arith

pub members_none : (x : ℕ) → members [] x ≡ false
unfolding members
members_none x = refl
