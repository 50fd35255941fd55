use Rattle.std.proofs.Common.{◌≡◌, ℕ, ◌^◌, ◌<◌, ◌≤◌, Bool, false, ◌&&◌, ◌||◌, eqb, ltb, sym, ap, ◌∙◌, ⊎_elim, arith}
use mathlib.Core.Bool.{or_comm}
use lib.Bits.{bit_or}
use Rattle.std.proofs.lemmas.Nat.{one_shl}
use Rattle.std.proofs.lemmas.Bool.{cases_eq, eq-eqb, ne_eqb, lt-ltb, le-ltb}
use Rattle.literals.specs.Members.{bit_of, member}
use Rattle.literals.proofs.Digits.{member_or, member_one}
use Rattle.literals.proofs.LiteralSet.insert.Goals as goal

-- where the literal has a place, the second test changes nothing
here : (k l : ℕ) → l < 128 → eqb k l ≡ (eqb k l && ltb k 128)
here k l h =
    ⊎_elim (λ (e : k ≡ l). rw (eq-eqb k l e) (sym (lt-ltb k 128 (omega arith)))) (λ (e : k ≡ l → ⊥). rw (ne_eqb k l e)) (cases_eq k l)

past : (k l : ℕ) → 128 ≤ l → (eqb k l && ltb k 128) ≡ false
past k l h =
    ⊎_elim (λ (e : k ≡ l). rw (eq-eqb k l e) (le-ltb k 128 (omega arith))) (λ (e : k ≡ l → ⊥). rw (ne_eqb k l e)) (cases_eq k l)

pub returns-then-l-lt-SPAN : goal.returns-then-l-lt-SPAN
unfolding member
returns-then-l-lt-SPAN c k =
    let b = c.args.self.now.bits in
    let l = c.args.l in
    ap (λ (x : ℕ). bit_of (bit_or b x) k) (one_shl l 128 (omega arith)) ∙ member_or b (2 ^ l) k
    ∙ ap (λ (x : Bool). bit_of b k || x) (member_one l k ∙ here k l c.if-l-lt-SPAN.true) ∙ or_comm (bit_of b k) (eqb k l && ltb k 128)

pub returns-else-l-lt-SPAN : goal.returns-else-l-lt-SPAN
returns-else-l-lt-SPAN c k = rw (past k c.args.l c.if-l-lt-SPAN.false)
