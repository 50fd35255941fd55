-- The book of the calls: the conditions that stand, and the budget granted since the last of them came or went.
use Rattle.std.specs.Prelude.{ℕ, ◌+◌, List, [], ◌∷◌, ◌++◌}
use Rattle.cases.specs.Meanings.{Sound}
use Rattle.calculus.specs.Scans.{all_but_last}
use Rattle.calculus.specs.Checks.{add_check, withdraw_check, if_accepted}
use Rattle.calculus.specs.Calls.{Call, add, withdraw, run, read, tally}

pub record Book : Type 0 where
  pub conditions : List (List ℕ)
  pub granted : ℕ

unfoldable pub new_book : Book
new_book = record { conditions = []; granted = 0 }

-- What a call changes in the book. Whether it is accepted, the checks decide from pile, argument and book.
unfoldable pub note : Sound → Book → Call → Book
note m b (add r) = if_accepted (add_check m b.conditions r) (record { conditions = b.conditions ++ (r ∷ []); granted = 0 }) b
note m b withdraw = if_accepted (withdraw_check b.conditions) (record { conditions = all_but_last b.conditions; granted = 0 }) b
note m b (run budget) = record { conditions = b.conditions; granted = b.granted + budget }
note m b (read size) = b
note m b tally = b
