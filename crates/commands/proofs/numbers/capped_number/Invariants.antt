use Rattle.std.proofs.Common.{◌≡◌, ◌^◌, ◌≤◌, drop}
use Rattle.std.specs.Option.{option_map}
use Rattle.commands.specs.Numbers.{number, digits_after}
use Rattle.commands.specs.Inner.Capping.{capped}
use Rattle.commands.proofs.numbers.capped_number.Given as goal

abbrev pub invariant-loop-b : goal.invariant-loop-b
invariant-loop-b l =
    (l.n ≤ 2 ^ 64)
    × (option_map capped (number l.word) ≡ option_map capped (digits_after l.n (drop l.b-index l.word)))
