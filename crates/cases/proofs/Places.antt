-- Going through a list by its places, as a chain over a range does.
use Rattle.std.proofs.Common.{◌≡◌, ℕ, Bool, ◌&&◌, ◌||◌, List, [], ◌∷◌, length, get_or, map, sym, refl, ap, ◌∙◌}
use Rattle.std.specs.List.{range_with_len, list_any, list_all, fold}
use Rattle.std.proofs.lemmas.List.FromFn.{fill_by_all}
use Rattle.std.proofs.lemmas.List.Folds.{list_all-map, fold-map}
use Rattle.cases.specs.Literals.{Literals}
use Rattle.cases.specs.Choices.{keeps, keeps_all}

-- what stands at the places of a list, in order, is the list
pub all_places : {X : Type 0} (xs : List X) (d : X) → map (λ i. get_or xs i d) (range_with_len 0 (length xs)) ≡ xs
all_places xs d = sym (fill_by_all (λ i. get_or xs i d) xs (length xs) d refl (λ k h. refl))

any_map : {X Y : Type 0} (p : X → Bool) (h : Y → X) (ys : List Y) → list_any p (map h ys) ≡ list_any (λ y. p (h y)) ys
any_map p h [] = refl
any_map p h (y ∷ ys) = ap (λ (b : Bool). p (h y) || b) (any_map p h ys)

pub any_keeps : (S : Literals) (rule : List ℕ) → list_any S rule ≡ keeps S rule
unfolding keeps
any_keeps S [] = refl
any_keeps S (l ∷ rule) = ap (λ (b : Bool). S l || b) (any_keeps S rule)

all_kept : (S : Literals) (rules : List (List ℕ)) → list_all (keeps S) rules ≡ keeps_all S rules
unfolding keeps_all
all_kept S [] = refl
all_kept S (r ∷ rules) = ap (λ (b : Bool). keeps S r && b) (all_kept S rules)

pub keeps_by_places : (S : Literals) (rule : List ℕ) → list_any (λ j. S (get_or rule j 255)) (range_with_len 0 (length rule)) ≡ keeps S rule
keeps_by_places S rule = sym (any_map S (λ j. get_or rule j 255) (range_with_len 0 (length rule))) ∙ ap (list_any S) (all_places rule 255) ∙ any_keeps S rule

pub keeps_all_by_places : (S : Literals) (rules : List (List ℕ)) → list_all (λ r. keeps S (get_or rules r [])) (range_with_len 0 (length rules)) ≡ keeps_all S rules
keeps_all_by_places S rules = sym (list_all-map (keeps S) (λ r. get_or rules r []) (range_with_len 0 (length rules))) ∙ ap (list_all (keeps S)) (all_places rules []) ∙ all_kept S rules

-- a fold over what stands at the places is the fold over the list
pub fold_by_places : {X B : Type 0} (f : B → X → B) (a : B) (xs : List X) (d : X) → fold (λ b i. f b (get_or xs i d)) a (range_with_len 0 (length xs)) ≡ fold f a xs
fold_by_places f a xs d = sym (fold-map f (λ i. get_or xs i d) a (range_with_len 0 (length xs))) ∙ ap (fold f a) (all_places xs d)
