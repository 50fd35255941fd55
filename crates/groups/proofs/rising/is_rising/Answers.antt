use Rattle.std.proofs.Common.{◌≡◌, ℕ, zero, suc, ◌+◌, ◌<◌, Bool, true, false, ltb, List, [], ◌∷◌, length, get_or, sym, refl, ap, ◌∙◌, rules, tests, arith}
use Rattle.std.specs.List.{IsAllAdjacentAnswer}
use Rattle.std.proofs.lemmas.List.Sorted.{answers_always}
use Rattle.std.proofs.lemmas.Bool.{and_from, and_left, and_right}
use Rattle.groups.specs.Groups.{rising}
use Rattle.groups.proofs.rising.is_rising.Goals as goal

told : (r : Bool) (xs : List ℕ) → IsAllAdjacentAnswer (λ x y b. b ≡ ltb x y) xs r → r ≡ rising xs
told true [] h = refl
told true (a ∷ []) h = refl
told true (a ∷ b ∷ xs) h =
    let later : (k d : ℕ) → k + 1 < length (b ∷ xs) → true ≡ ltb (get_or (b ∷ xs) k d) (get_or (b ∷ xs) (k + 1) d) =
    λ k d l. let next : (suc k) + 1 ≡ suc (k + 1) = omega arith in h (suc k) d (omega arith) ∙ ap (λ n. ltb (get_or (b ∷ xs) k d) (get_or (a ∷ b ∷ xs) n d)) next in
    sym (and_from (ltb a b) (rising (b ∷ xs)) (sym (h 0 0 (omega arith))) (sym (told true (b ∷ xs) later)))
told false [] h = absurd (omega (arith, h.1))
told false (a ∷ []) h = absurd (omega (arith, h.1))
told false (a ∷ b ∷ xs) (zero, l, h) = sym (and_left (ltb a b) (rising (b ∷ xs)) (sym (h 0)))
told false (a ∷ b ∷ xs) (suc k, l, h) =
    let next : (suc k) + 1 ≡ suc (k + 1) = omega arith in
    let later : (d : ℕ) → false ≡ ltb (get_or (b ∷ xs) k d) (get_or (b ∷ xs) (k + 1) d) = λ d. h d ∙ ap (λ n. ltb (get_or (b ∷ xs) k d) (get_or (a ∷ b ∷ xs) n d)) next in
    sym (and_right (ltb a b) (rising (b ∷ xs)) (sym (told false (b ∷ xs) (k, omega arith, later))))

pub returns : goal.returns
returns c = told c.is_sorted_by.result c.args.list.now (c.is_sorted_by.ensures.cases ltb (answers_always _ _ _ (λ f a r q h. search (rules, tests))))
