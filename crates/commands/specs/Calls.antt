-- What a line asks for: the first word names the call, and the others are its arguments.
use Rattle.std.specs.Prelude.{ℕ, Bool, false, cond, List, [], ◌∷◌, Some, None, vec_items, codes, Option}
use Rattle.std.specs.Option.{option_map}
use Rattle.std.specs.Str.{bytes_eq}
use Rattle.commands.specs.declared.command.Command.{Command}
use Rattle.commands.specs.declared.command.Command.TheVariants.{Add, Withdraw, Run, Read, Tally}
use Rattle.commands.specs.Lines.{words}
use Rattle.commands.specs.Numbers.{budget, literals}

pub data Meant : Type 0 where
  add : List ℕ → Meant
  withdraw : Meant
  run : ℕ → Meant
  read : Meant
  tally : Meant

-- A command by what it holds.
abbrev pub meaning : Command → Meant
meaning (Add found) = add (vec_items found)
meaning Withdraw = withdraw
meaning (Run n) = run n
meaning Read = read
meaning Tally = tally

-- A call that takes no argument.
abbrev pub alone : Meant → List (List ℕ) → Option Meant
alone m [] = Some m
alone m (word ∷ more) = None

-- One number, the budget.
abbrev pub run_of : List (List ℕ) → Option Meant
run_of [] = None
run_of (word ∷ []) = option_map run (budget word)
run_of (word ∷ (second ∷ more)) = None

-- Any number of literals.
abbrev pub add_of : List (List ℕ) → Option Meant
add_of args = option_map add (literals args)

abbrev pub called : List ℕ → List (List ℕ) → Option Meant
called name args =
    cond (bytes_eq name (codes "add")) (add_of args)
    (cond (bytes_eq name (codes "withdraw")) (alone withdraw args)
    (cond (bytes_eq name (codes "run")) (run_of args)
    (cond (bytes_eq name (codes "read")) (alone read args) (cond (bytes_eq name (codes "tally")) (alone tally args) None))))

-- A line without words is no call.
abbrev pub of_words : List (List ℕ) → Option Meant
of_words [] = None
of_words (name ∷ args) = called name args

abbrev pub command_of : List ℕ → Option Meant
command_of line = of_words (words line)

-- Whether the call is an `add`: no other can want for memory.
abbrev pub is_add : List (List ℕ) → Bool
is_add [] = false
is_add (name ∷ args) = bytes_eq name (codes "add")
