-- Facts of what an option holds.
use Rattle.std.proofs.Common.{Some, None, Option, MatchOption}

-- What is known of the value, from what else is. A proof uses it to read what a closure gives.
pub at_value : {A : Type 0} (P : Type 0) {Q : A → Type 0} (R : A → Type 0) → (o : Option A) → ((x : A) → Q x → R x) → MatchOption o P Q → MatchOption o P R
at_value P R None f h = h
at_value P R (Some x) f h = f x h
