use Rattle.std.proofs.Common.{◌≡◌, ℕ, ◌-◌, ◌<◌, ◌≤◌, ◌&&◌, ltb, sym, ap, ◌∙◌, ⊎_elim, arith, pow_pos}
use Rattle.std.proofs.lemmas.Nat.{one_shl}
use Rattle.std.proofs.lemmas.Bool.{cases_lt, lt-ltb, le-ltb}
use Rattle.literals.specs.Members.{bit_of, member}
use Rattle.literals.proofs.Digits.{member_ones}
use Rattle.literals.proofs.LiteralSet.below.Goals as goal

-- the lower of two bounds decides
lower : (k a b : ℕ) → a ≤ b → ltb k a ≡ (ltb k a && ltb k b)
lower k a b h =
    ⊎_elim (λ (l : k < a). rw (lt-ltb k a l) (sym (lt-ltb k b (omega arith)))) (λ (l : a ≤ k). rw (le-ltb k a l)) (cases_lt k a)

upper : (k a b : ℕ) → b ≤ a → ltb k b ≡ (ltb k a && ltb k b)
upper k a b h =
    ⊎_elim (λ (l : k < a). rw (lt-ltb k a l)) (λ (l : a ≤ k). rw (le-ltb k a l) (le-ltb k b (omega arith))) (cases_lt k a)

pub overflow_sub-result : goal.overflow_sub-result
overflow_sub-result c = omega (arith, one_shl c.args.end 128 c.if-end-lt-SPAN.true, pow_pos c.args.end)

pub returns-then-end-lt-SPAN : goal.returns-then-end-lt-SPAN
unfolding member
returns-then-end-lt-SPAN c k =
    let e = c.args.end in
    let h : e < 128 = c.if-end-lt-SPAN.true in
    ap (λ (x : ℕ). bit_of (x - 1) k) (one_shl e 128 h) ∙ member_ones e k ∙ lower k e 128 (omega arith)

pub returns-else-end-lt-SPAN : goal.returns-else-end-lt-SPAN
unfolding member
returns-else-end-lt-SPAN c k = member_ones 128 k ∙ upper k c.args.end 128 c.if-end-lt-SPAN.false
