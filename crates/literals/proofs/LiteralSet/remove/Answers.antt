use Rattle.std.proofs.Common.{◌≡◌, ℕ, ◌^◌, ◌<◌, Bool, not, ◌&&◌, sym, ap, ◌∙◌, ⊎_elim, arith}
use lib.Pow.{pow-lt}
use Rattle.std.specs.Prelude.{bit_and}
use Rattle.std.specs.Int.{bit_not, w128}
use Rattle.std.proofs.lemmas.Nat.{one_shl}
use Rattle.std.proofs.lemmas.Bool.{cases_eq, eq-eqb, ne_eqb}
use Rattle.literals.specs.Members.{bit_of, member}
use Rattle.literals.proofs.Digits.{member_without, member_one, none_past}
use Rattle.literals.proofs.LiteralSet.remove.Goals as goal

pub returns-then-l-lt-SPAN : goal.returns-then-l-lt-SPAN
unfolding member
returns-then-l-lt-SPAN c k =
    let b = c.args.self.now.bits in
    let fits : b < 2 ^ 128 = omega arith in
    let l = c.args.l in
    ap (λ (x : ℕ). bit_of (bit_and b (bit_not w128 x)) k) (one_shl l 128 (omega arith)) ∙ member_without b (2 ^ l) k fits (pow-lt c.if-l-lt-SPAN.true)
    ∙ ap (λ (x : Bool). not x && bit_of b k) (member_one l k)

pub returns-else-l-lt-SPAN : goal.returns-else-l-lt-SPAN
unfolding member
returns-else-l-lt-SPAN c k =
    let b = c.args.self.now.bits in
    let fits : b < 2 ^ 128 = omega arith in
    let l = c.args.l in
    ⊎_elim (λ (e : k ≡ l). none_past b k fits (omega (arith, e, c.if-l-lt-SPAN.false)) ∙ sym (rw (eq-eqb k l e)))
    (λ (e : k ≡ l → ⊥). sym (rw (ne_eqb k l e))) (cases_eq k l)
