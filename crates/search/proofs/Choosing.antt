-- The choice of a set, option by option, and its marks.
use Rattle.std.proofs.Common.{◌≡◌, ℕ, zero, suc, ◌*◌, ◌<◌, ◌≤◌, Bool, true, false, cond, List, map, length, get_or, take, replicate, sym, refl, ◌∙◌, arith}
use Rattle.std.specs.Int.{from_bool}
use lib.ListN.{length-map}
use Rattle.std.proofs.lemmas.List.FromFn.{fill_by_all}
use Rattle.std.proofs.lemmas.List.{get_or-map, get_or-take, length-take-le}
use Rattle.cases.specs.Literals.{Literals}
use Rattle.cases.specs.Counted.{counted}
use Rattle.calculus.specs.Changes.{choice_of}
use Rattle.calculus.proofs.Choices.{length-choice, choice_at}

pub choice_counted : (n : ℕ) (S : Literals) → choice_of n S ≡ counted (λ v. S (2 * v)) n
choice_counted n S = fill_by_all (λ v. S (2 * v)) (choice_of n S) n false (length-choice n S) (λ v h. choice_at n v S h)

-- what has an option's literal at its place begins with the choice
pub choice_first : (S : Literals) (ys : List Bool) → length ys ≡ 56 → ((v : ℕ) → v < 56 → get_or ys v false ≡ S (2 * v)) → (n : ℕ) → n ≤ 56 → take n ys ≡ choice_of n S
choice_first S ys long at n l =
    fill_by_all (λ v. S (2 * v)) (take n ys) n false (length-take-le n ys (omega arith)) (λ k h. get_or-take n ys k false h ∙ at k (omega arith)) ∙ sym (choice_counted n S)

abbrev pub mark_of : Bool → ℕ
mark_of b = cond b 1 0

pub byte_mark : (b : Bool) → from_bool b ≡ mark_of b
byte_mark true = refl
byte_mark false = refl

pub marks_counted : (c : List Bool) → map mark_of c ≡ counted (λ v. mark_of (get_or c v false)) (length c)
marks_counted c = fill_by_all (λ v. mark_of (get_or c v false)) (map mark_of c) (length c) 0 (length-map c mark_of) (λ v h. get_or-map mark_of c v false 0 h)

pub no_marks : (n j : ℕ) → get_or (replicate n false) j false ≡ false
no_marks zero j = refl
no_marks (suc n) zero = refl
no_marks (suc n) (suc j) = no_marks n j
