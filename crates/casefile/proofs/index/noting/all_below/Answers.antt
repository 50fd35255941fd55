use Rattle.std.proofs.Common.{◌∙◌, refl, ap, ◌≡◌, ℕ, List, [], ◌∷◌, ◌&&◌, ltb, rules, tests}
use Rattle.std.specs.List.{list_all}
use Rattle.std.proofs.lemmas.Iterator.{YieldsList-from_slice}
use Rattle.std.proofs.lemmas.Iterator.Search.{all_from_yields_List}
use Rattle.casefile.specs.Files.{below}
use Rattle.casefile.proofs.index.noting.all_below.Goals as goal

all-below : (m : ℕ) (xs : List ℕ) → list_all (λ x. ltb x m) xs ≡ below m xs
all-below m [] = refl
all-below m (x ∷ xs) = ap (λ b. ltb x m && b) (all-below m xs)

pub returns : goal.returns
returns c = all_from_yields_List (λ x. ltb x c.args.limit) _ _ c.all.result c.all.ensures.ran (YieldsList-from_slice c.args.literals.now cc) (λ x b q k. search (rules, tests)) ∙ all-below c.args.limit c.args.literals.now
