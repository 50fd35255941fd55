use Rattle.std.proofs.Common.{◌≡◌, ℕ, ◌+◌, nat_lt, length, sym, ◌∙◌, ap₂}
use Rattle.groups.specs.Groups.{pair_rules}
use Rattle.groups.specs.Facts.Groups.{length-pair_rules}
use Rattle.groups.proofs.state.Groups.overfills.Goals as goal

pub returns : goal.returns
returns g c =
    let n : c.pair_count.result ≡ length (pair_rules c.args.options.now) = c.pair_count.ensures.value ∙ sym (length-pair_rules c.args.options.now) in
    ap₂ (λ (a b : ℕ). nat_lt 512 (a + b)) c.rules.ensures n
