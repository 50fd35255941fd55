-- The number of each refusal.
use Rattle.std.specs.Prelude.{ℕ}
use Rattle.cases.specs.declared.refusal.Refusal.{Refusal}
use Rattle.cases.specs.declared.refusal.Refusal.TheVariants.{Oversize, Full, NothingToWithdraw, NoBest, TooLarge, TooLong, NoSuchLiteral, ShortBuffer, WrongGroupSize, NotRising}

abbrev pub number_of : Refusal → ℕ
number_of Oversize = 11
number_of Full = 12
number_of NothingToWithdraw = 13
number_of NoBest = 14
number_of TooLarge = 16
number_of TooLong = 21
number_of NoSuchLiteral = 22
number_of ShortBuffer = 23
number_of WrongGroupSize = 24
number_of NotRising = 25
