use Rattle.std.proofs.Common.{◌≡◌, ℕ, ◌+◌, ◌-◌, ◌*◌, get_or, drop, sym, ap, ◌∙◌, arith}
use Rattle.std.specs.Option.{option_map}
use Rattle.commands.specs.Numbers.{digits_after}
use Rattle.commands.specs.Inner.Capping.{capped}
use Rattle.commands.proofs.Digits.{digit_more}
use Rattle.commands.proofs.numbers.capped_number.Goals as goal

pub loop-b-preserved : goal.loop-b-preserved
loop-b-preserved c =
    let digit = c.if-not-is_ascii_digit.ensures.cases in
    let d : ℕ = get_or c.args.word.now c.loop-b.b-index 0 - 48 in
    let e : c.min-n.result ≡ capped (c.loop-b.n * 10 + d) = omega arith in (
      omega arith,
      c.loop-b.invariant.1
          ∙ (digit_more c.loop-b.n c.loop-b.b-index c.args.word.now c.loop-b-test.true digit.0 digit.1
          ∙ ap (λ m. option_map capped (digits_after m (drop (c.loop-b.b-index + 1) c.args.word.now))) (sym e)),
    )
