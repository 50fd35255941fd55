-- What a list of entries stands for, from the definition: one entry more, the newest, and entries under other reasons.
use Rattle.std.proofs.Common.{◌≡◌, ℕ, ◌+◌, ◌-◌, ◌<◌, Bool, true, false, leb, ltb, ◌||◌, List, [], ◌∷◌, ◌++◌, map, reverse, length, get_or, take, drop, set, Some, None, Option, MatchOption, inl, inr, sym, refl, ap, ◌∙◌, subst, ap₂, arith, length-append}
use Rattle.std.specs.List.{list_any, slice_get}
use Rattle.std.proofs.lemmas.List.{reverse-append, length-reverse, length-map, length-take-le, take_more, take_more_set, take_all, drop_more, set-append_right, append_assoc, nil_from_length}
use Rattle.std.proofs.lemmas.List.Sorted.{list_any-IsPermutation, IsPermutation-reverse}
use Rattle.std.proofs.lemmas.Option.{slice_get_cases, slice_get_within, get_or_from_slice_get}
use Rattle.std.proofs.lemmas.Bool.{both_ways, cond-true, cond-false, lt-leb, le-leb, ltb-true, ltb-false}
use Rattle.calculus.specs.Learned.{is_place, is_reason, moved, renamed}
use Rattle.calculus.specs.Trails as calculus
use Rattle.trails.specs.declared.entry.Entry.{Entry}
use Rattle.trails.specs.Entries.{trail_of, entry_of, reason_of, literals_in, tail_of, Top}

pub trail_none : trail_of [] ≡ []
unfolding trail_of
trail_none = refl

pub trail_push : (es : List Entry) (e : Entry) → trail_of (es ++ e ∷ []) ≡ entry_of e ∷ trail_of es
unfolding trail_of
trail_push es e = ap (map entry_of) (reverse-append es (e ∷ []))

pub trail_more : (es : List Entry) (i : ℕ) (d : Entry) → i < length es → trail_of (take (i + 1) es) ≡ entry_of (get_or es i d) ∷ trail_of (take i es)
trail_more es i d h = ap trail_of (take_more es i d h) ∙ trail_push (take i es) (get_or es i d)

pub length-trail : (es : List Entry) → length (trail_of es) ≡ length es
unfolding trail_of
length-trail es = length-map (reverse es) entry_of ∙ length-reverse es

-- reasons
is_reason_any : (es : List Entry) (i : ℕ) → is_reason (map entry_of es) i ≡ list_any (λ e. is_place (reason_of e.reason) i) es
unfolding is_reason
is_reason_any [] i = refl
is_reason_any (e ∷ es) i = ap (λ b. is_place (reason_of e.reason) i || b) (is_reason_any es i)

pub is_reason_trail : (es : List Entry) (i : ℕ) → is_reason (trail_of es) i ≡ list_any (λ e. is_place (reason_of e.reason) i) es
unfolding trail_of
is_reason_trail es i =
    is_reason_any (reverse es) i ∙ sym (list_any-IsPermutation (λ e. is_place (reason_of e.reason) i) es (reverse es) (IsPermutation-reverse es))

pub is_reason_none : (i : ℕ) → is_reason (trail_of []) i ≡ false
unfolding is_reason
is_reason_none i = ap (λ t. is_reason t i) trail_none

pub is_reason_more : (es : List Entry) (k i : ℕ) (d : Entry) → k < length es → is_reason (trail_of (take (k + 1) es)) i ≡ (is_place (reason_of (get_or es k d).reason) i || is_reason (trail_of (take k es)) i)
unfolding is_reason
is_reason_more es k i d h = ap (λ (t : calculus.Trail). is_reason t i) (trail_more es k d h)

pub renamed_none : (p : ℕ) → trail_of [] ≡ renamed p (trail_of [])
unfolding renamed
renamed_none p = trail_none ∙ sym (ap (renamed p) trail_none)

-- one entry more
pub length-more : (es fs : List Entry) (e : Entry) → fs ≡ es ++ e ∷ [] → length fs ≡ length es + 1
length-more es fs e h = ap length h ∙ length-append es (e ∷ [])

-- one turn of a loop that renames
pub renamed_turn : (old now : List Entry) (p i : ℕ) (e d : Entry) → i < length now → i < length old → trail_of (take i now) ≡ renamed p (trail_of (take i old))
    → entry_of e ≡ record { literal = (get_or old i d).literal; level = (get_or old i d).level; reason = moved p (reason_of (get_or old i d).reason) }
    → trail_of (take (i + 1) (set now i e)) ≡ renamed p (trail_of (take (i + 1) old))
unfolding renamed
renamed_turn old now p i e d h l rest same =
    ap trail_of (take_more_set now i e h) ∙ trail_push (take i now) e
    ∙ ap₂ {C = calculus.Trail} (λ (a : calculus.Entry) (t : calculus.Trail). a ∷ t) same rest
    ∙ sym (ap (renamed p) (trail_more old i d l))

-- writing the literals over the front of a list
pub length-literals : (t : calculus.Trail) → length (literals_in t) ≡ length t
unfolding literals_in
length-literals [] = refl
length-literals (e ∷ t) = length-append (literals_in t) (e.literal ∷ []) ∙ omega (arith, length-literals t)

pub literals_more : (es : List Entry) (k : ℕ) (d : Entry) → k < length es → literals_in (trail_of (take (k + 1) es)) ≡ literals_in (trail_of (take k es)) ++ ((get_or es k d).literal ∷ [])
unfolding literals_in
literals_more es k d h = ap literals_in (trail_more es k d h)

pub literals_none : (xs : List ℕ) → xs ≡ literals_in (trail_of []) ++ drop 0 xs
unfolding literals_in
literals_none xs = ap (λ (t : calculus.Trail). literals_in t ++ xs) (sym trail_none)

pub write_turn : (es : List Entry) (xs ys : List ℕ) (i y : ℕ) (d : Entry) → i < length xs → i < length es → ys ≡ literals_in (trail_of (take i es)) ++ drop i xs → y ≡ (get_or es i d).literal
    → set ys i y ≡ literals_in (trail_of (take (i + 1) es)) ++ drop (i + 1) xs
write_turn es xs ys i y d h l written e =
    let front = literals_in (trail_of (take i es)) in
    let none : i - i ≡ 0 = omega arith in
    ap (λ zs. set zs i y) written
    ∙ set-append_right front (drop i xs) i i y (length-literals (trail_of (take i es)) ∙ length-trail (take i es) ∙ length-take-le i es (omega arith)) (omega arith)
    ∙ ap (λ k. front ++ set (drop i xs) k y) none
    ∙ ap (λ zs. front ++ set zs 0 y) (drop_more xs i y h)
    ∙ sym (append_assoc front (y ∷ []) (drop (i + 1) xs))
    ∙ ap (λ z. (front ++ (z ∷ [])) ++ drop (i + 1) xs) e
    ∙ ap (λ zs. zs ++ drop (i + 1) xs) (sym (literals_more es i d l))

-- the newest of some entries
top_from : (t r : calculus.Trail) (e : Entry) → t ≡ entry_of e ∷ r → Top t (Some e)
top_from t r e h = h ∙ ap (λ (s : calculus.Trail). entry_of e ∷ s) (sym (ap tail_of h))

pub top_of : (es : List Entry) (o : Option Entry) → o ≡ slice_get es (length es - 1) → Top (trail_of es) o
top_of es None e =
    elim (slice_get_cases es (length es - 1)).1 [
      | inl h ↦ absurd (let at = h.2 in cc)
      | inr h ↦ ap trail_of (nil_from_length es (omega (arith, h.0))) ∙ trail_none
    ]
top_of es (Some x) e =
    let i = length es - 1 in
    let h = slice_get_within es i x (sym e) in
    let more : es ≡ take i es ++ x ∷ [] =
    sym (take_all (i + 1) es (omega arith)) ∙ take_more es i x h ∙ ap (λ y. take i es ++ y ∷ []) (get_or_from_slice_get es i x x (sym e))
    in
    top_from (trail_of es) (trail_of (take i es)) x (ap trail_of more ∙ trail_push (take i es) x)

-- the level of a trail is that of its newest entry
pub level_top : (t : calculus.Trail) (o : Option Entry) (r : ℕ) → calculus.Levelled t → Top t o → MatchOption o (r ≡ 0) (λ e. r ≡ e.level) → r ≡ calculus.level t
unfolding calculus.level
level_top t None r w top h = h ∙ sym (ap calculus.level top)
level_top t (Some e) r w top h = h ∙ (subst calculus.Levelled top w).0 ∙ sym (ap calculus.level top)

-- cutting, where b says whether the newest entry is above the level i
module _ (i : ℕ) (t : calculus.Trail) where
  pub cut_goes_on : (o : Option Entry) (b : Bool) → Top t o → MatchOption o (b ≡ false) (λ e. b ≡ ltb i e.level) → b ≡ true → calculus.cut i (tail_of t) ≡ calculus.cut i t
  unfolding calculus.cut
  cut_goes_on None b top h above = absurd (both_ways b h above)
  cut_goes_on (Some e) b top h above = sym (ap (calculus.cut i) top ∙ cond-false (leb e.level i) (entry_of e ∷ tail_of t) (calculus.cut i (tail_of t)) (lt-leb e.level i (ltb-true i e.level (sym h ∙ above))))

  pub cut_stops : (o : Option Entry) (b : Bool) → Top t o → MatchOption o (b ≡ false) (λ e. b ≡ ltb i e.level) → b ≡ false → t ≡ calculus.cut i t
  unfolding calculus.cut
  cut_stops None b top h below = top ∙ sym (ap (calculus.cut i) top)
  cut_stops (Some e) b top h below =
      top ∙ sym (ap (calculus.cut i) top ∙ cond-true (leb e.level i) (entry_of e ∷ tail_of t) (calculus.cut i (tail_of t)) (le-leb e.level i (ltb-false i e.level (sym h ∙ below))))

  pub shorter : (o : Option Entry) (b : Bool) → Top t o → MatchOption o (b ≡ false) (λ e. b ≡ ltb i e.level) → b ≡ true → length (tail_of t) < length t
  shorter None b top h above = absurd (both_ways b h above)
  shorter (Some e) b top h above = omega (arith, ap length top)
