use Rattle.std.proofs.Common.{rules, ◌≡◌, max, ℕ, ◌+◌, None, Some, Option, List, [], ◌∷◌, map, sym, refl, ap, ◌∙◌, arith}
use Rattle.std.proofs.lemmas.Iterator.{YieldsList-from_slice, YieldsList-from_map}
use Rattle.std.proofs.lemmas.Iterator.Consumers.{max_from_yields_List}
use Rattle.std.specs.Option.{unwrap_or, option_map}
use Rattle.std.specs.List.{reduce, fold}
use Rattle.layers.specs.Rows.{past_all}
use Rattle.layers.proofs.lists.past_all.Goals as goal

largest : (a : ℕ) (xs : List ℕ) → fold max a (map (λ x. x + 1) xs) ≡ max a (past_all xs)
largest a [] = omega arith
largest a (x ∷ xs) = largest (max a (x + 1)) xs ∙ omega arith

same : (r : Option ℕ) → option_map (λ (x : ℕ). x) r ≡ r
same None = refl
same (Some x) = refl

past : (xs : List ℕ) → unwrap_or (reduce max (map (λ x. x + 1) xs)) 0 ≡ past_all xs
past [] = refl
past (x ∷ xs) = largest (x + 1) xs

pub returns : goal.returns
returns c =
    let xs = c.args.list.now in
    let e = max_from_yields_List {v = λ x. x} _ c.max.result c.max.ensures.ran (YieldsList-from_map _ (λ x. x + 1) (YieldsList-from_slice xs cc) refl (λ x r q k. search rules)) in
    c.unwrap_or.ensures ∙ ap (λ r. unwrap_or r 0) (sym (same c.max.result) ∙ e) ∙ past xs
