-- How long the tables are, and what a mark, a note, a removal and one row more leave of the learned rows; all from the definitions.
use Rattle.std.proofs.Common.{◌≡◌, ℕ, zero, suc, ◌-◌, ◌<◌, ◌≤◌, Bool, false, List, [], ◌∷◌, ◌++◌, map, length, get_or, take, drop, refl, ap, ◌∙◌, not-suc-le-zero, arith}
use Rattle.std.proofs.lemmas.List.{length-map, length-take-le, map_push}
use Rattle.calculus.specs.Scans.{remove, all_but_last}
use Rattle.cases.specs.Literals.{Literals}
use Rattle.layers.specs.Facts.Rows.{below_past}
use Rattle.shortlists.specs.ShortLists.{items_in}
use Rattle.tables.specs.declared.learned.Learned.{Learned}
use Rattle.tables.specs.declared.conditions.Condition.{Condition}
use Rattle.tables.specs.declared.conditions.Conditions.{Conditions}
use Rattle.tables.specs.Rows.{Noted, row_of, nothing_noted, marked, noting}
use Rattle.tables.specs.Learned.{rows_of, rules_learned}
use Rattle.tables.specs.Conditions.{conditions_of, literals_of}

pub len_rows : (l : Learned) → length (rows_of l) ≡ l.len
unfolding rows_of
len_rows l = length-map (take l.len l.rows) row_of ∙ length-take-le l.len l.rows (omega (arith, l.few, l.full))

pub length-rows : (l : Learned) → length (rows_of l) ≤ 64
length-rows l = omega (arith, len_rows l, l.few)

pub len_conditions : (c : Conditions) → length (conditions_of c) ≡ length (items_in c.held)
unfolding conditions_of
len_conditions c = length-map (items_in c.held) literals_of

pub length-conditions : (c : Conditions) → length (conditions_of c) ≤ 32
length-conditions c = omega (arith, len_conditions c, c.few)

-- The newest condition gone.
pub last_gone : (cs : List Condition) → map literals_of (take (length cs - 1) cs) ≡ all_but_last (map literals_of cs)
unfolding all_but_last
last_gone [] = refl
last_gone (c ∷ []) = refl
last_gone (c ∷ d ∷ cs) =
    let e : length (c ∷ d ∷ cs) - 1 ≡ suc (length (d ∷ cs) - 1) = omega arith in
    ap (λ n. map literals_of (take n (c ∷ d ∷ cs))) e ∙ ap {B = List (List ℕ)} (λ ls. literals_of c ∷ ls) (last_gone (d ∷ cs))

-- What a condition has is a literal.
pub literal_small : (cs : List Condition) (i j : ℕ) → j < length (get_or (map literals_of cs) i []) → get_or (get_or (map literals_of cs) i []) j 255 < 128
literal_small [] i j h = absurd (omega arith)
literal_small (c ∷ cs) zero j h = below_past (literals_of c) 128 c.literals.small j 255 h
literal_small (c ∷ cs) (suc i) j h = literal_small cs i j h

-- a mark
pub length_marked : (j : ℕ) (b : Bool) (rs : List Noted) → length (marked j b rs) ≡ length rs
unfolding marked
length_marked j b [] = refl
length_marked zero b (r ∷ rs) = refl
length_marked (suc j) b (r ∷ rs) = ap suc (length_marked j b rs)

pub learned_marked : (j : ℕ) (b : Bool) (rs : List Noted) → rules_learned (marked j b rs) ≡ rules_learned rs
unfolding marked
learned_marked j b [] = refl
learned_marked zero b (r ∷ rs) = refl
learned_marked (suc j) b (r ∷ rs) = ap {B = List Literals} (λ ls. r.literals ∷ ls) (learned_marked j b rs)

pub mark_here : (j : ℕ) (b : Bool) (rs : List Noted) → j < length rs → (get_or (marked j b rs) j nothing_noted).reason ≡ b
unfolding marked
mark_here j b [] h = absurd (not-suc-le-zero h)
mark_here zero b (r ∷ rs) h = refl
mark_here (suc j) b (r ∷ rs) h = mark_here j b rs (omega arith)

pub mark_other : (i j : ℕ) (b : Bool) (rs : List Noted) → (i ≡ j → ⊥) → (get_or (marked j b rs) i nothing_noted).reason ≡ (get_or rs i nothing_noted).reason
unfolding marked
mark_other i j b [] h = refl
mark_other zero zero b (r ∷ rs) h = absurd (h refl)
mark_other (suc i) zero b (r ∷ rs) h = refl
mark_other zero (suc j) b (r ∷ rs) h = refl
mark_other (suc i) (suc j) b (r ∷ rs) h = mark_other i j b rs (λ e. h (ap suc e))

-- a note of every row
pub length-noting : (bs : List Bool) (rs : List Noted) → length (noting bs rs) ≡ length rs
unfolding noting
length-noting bs [] = refl
length-noting bs (r ∷ rs) = ap suc (length-noting (drop 1 bs) rs)

pub learned_noting : (bs : List Bool) (rs : List Noted) → rules_learned (noting bs rs) ≡ rules_learned rs
unfolding noting
learned_noting bs [] = refl
learned_noting bs (r ∷ rs) = ap {B = List Literals} (λ ls. r.literals ∷ ls) (learned_noting (drop 1 bs) rs)

pub next_note : (bs : List Bool) (j : ℕ) → get_or (drop 1 bs) j false ≡ get_or bs (suc j) false
next_note [] j = refl
next_note (b ∷ bs) j = refl

pub note_at : (bs : List Bool) (rs : List Noted) (j : ℕ) → j < length rs → (get_or (noting bs rs) j nothing_noted).reason ≡ get_or bs j false
unfolding noting
note_at bs [] j h = absurd (not-suc-le-zero h)
note_at bs (r ∷ rs) zero h = refl
note_at bs (r ∷ rs) (suc j) h = note_at (drop 1 bs) rs j (omega arith) ∙ next_note bs j

-- the rules alone
pub learned_at : (rs : List Noted) (j : ℕ) → get_or (rules_learned rs) j (λ _. false) ≡ (get_or rs j nothing_noted).literals
learned_at [] j = refl
learned_at (r ∷ rs) zero = refl
learned_at (r ∷ rs) (suc j) = learned_at rs j

pub length-learned : (rs : List Noted) → length (rules_learned rs) ≡ length rs
length-learned rs = length-map rs (λ r. r.literals)

pub learned_remove : (p : ℕ) (rs : List Noted) → rules_learned (remove p rs) ≡ remove p (rules_learned rs)
unfolding remove
learned_remove p [] = refl
learned_remove zero (r ∷ rs) = refl
learned_remove (suc p) (r ∷ rs) = ap {B = List Literals} (λ ls. r.literals ∷ ls) (learned_remove p rs)

pub learned-append : (rs : List Noted) (r : Noted) → rules_learned (rs ++ (r ∷ [])) ≡ rules_learned rs ++ (r.literals ∷ [])
learned-append rs r = map_push (λ (x : Noted). x.literals) rs r
