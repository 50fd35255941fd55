-- The number of each fault of a case file.
use Rattle.std.specs.Prelude.{ℕ}
use Rattle.casefile.specs.declared.fault.Fault.{Fault}
use Rattle.casefile.specs.declared.fault.Fault.TheVariants.{Truncated, UnknownTag, WrongLength, OutOfOrder, TooManyOptions, NoSuchLiteral, NotRising, ZeroAmount, TooManyRules, Trailing}

abbrev pub fault_number : Fault → ℕ
fault_number Truncated = 1
fault_number UnknownTag = 2
fault_number WrongLength = 3
fault_number OutOfOrder = 4
fault_number TooManyOptions = 5
fault_number NoSuchLiteral = 6
fault_number NotRising = 7
fault_number ZeroAmount = 8
fault_number TooManyRules = 9
fault_number Trailing = 10
