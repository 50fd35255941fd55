use Rattle.std.proofs.Common.{◌≡◌, ℕ, suc, ◌+◌, ◌<◌, ◌≤◌, rules, cond, true, false, not, ltb, List, [], ◌∷◌, map, take, length, get_or, Some, None, sym, refl, ap, ◌∙◌, ⊎_elim, one-add, arith}
use borrow.Author.Tests.{tests}
use Rattle.std.specs.Prelude.{unwrap_or}
use Rattle.std.specs.List.{position_or_len}
use Rattle.std.proofs.lemmas.Bool.{cases_lt, lt-ltb, le-ltb}
use Rattle.std.proofs.lemmas.Iterator.{YieldsList-from_slice}
use Rattle.std.proofs.lemmas.Iterator.Search.{position_from_yields_List}
use Rattle.std.proofs.lemmas.List.Sums.{prefix_len-le-length}
use Rattle.calculus.specs.Scans.{first}
use Rattle.tables.specs.declared.learned.Row.{Row}
use Rattle.tables.specs.Rows.{row_of, nothing_noted}
use Rattle.tables.specs.Learned.{rows_of}
use Rattle.std.proofs.lemmas.List.{length-take-le}
use Rattle.tables.proofs.learned.Learned.first_free.Goals as goal

-- the place of the first free row, or the length
placed : (n : ℕ) (p : ℕ) → p ≤ n → unwrap_or (cond (ltb p n) (Some p) None) n ≡ p
placed n p h =
    ⊎_elim (λ (l : p < n). ap (λ b. unwrap_or (cond b (Some p) None) n) (lt-ltb p n l)) (λ (l : n ≤ p). ap (λ b. unwrap_or (cond b (Some p) None) n) (le-ltb p n l) ∙ omega arith) (cases_lt p n)

first_place : (rs : List Row) → position_or_len (λ r. not r.reason) rs ≡ first (length (map row_of rs)) (λ j. not (get_or (map row_of rs) j nothing_noted).reason)
unfolding first
first_place [] = refl
first_place (r ∷ rs) =
    elim r.reason as (λ b. cond (not (not b)) (1 + position_or_len (λ a. not a.reason) rs) 0 ≡ cond (not b) 0 (suc (first (length (map row_of rs)) (λ j. not (get_or (map row_of rs) j nothing_noted).reason))))
    [ true ↦ one-add _ ∙ ap suc (first_place rs) | false ↦ refl ]

pub returns : goal.returns
unfolding rows_of
returns c =
    let s = c.args.self.now in
    let rs = take s.len s.rows in
    let full : length rs ≡ s.len = omega (arith, length-take-le s.len s.rows (omega (arith, s.few, s.full))) in
    let found = position_from_yields_List (λ (r : Row). not r.reason) _ _ c.position.result c.position.ensures.ran (YieldsList-from_slice rs c.iter.ensures.rest) (λ x b q k. search (rules, tests)) in
    c.unwrap_or.ensures ∙ ap (λ o. unwrap_or o s.len) found ∙ ap (λ n. unwrap_or (cond (ltb (position_or_len (λ (r : Row). not r.reason) rs) (length rs)) (Some (position_or_len (λ (r : Row). not r.reason) rs)) None) n) (sym full)
    ∙ placed (length rs) _ (prefix_len-le-length _ rs) ∙ first_place rs
