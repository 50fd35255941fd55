use Rattle.std.proofs.Common.{◌≡◌, ℕ, rules, cond, Bool, true, false, ◌&&◌, ◌||◌, eqb, ltb, List, [], ◌∷◌, map, reverse, None, Option, Bor, sym, refl, ap, ◌∙◌, arith}
use borrow.Author.Tests.{tests}
use Rattle.std.specs.List.{list_any, take_while}
use Rattle.std.specs.Iterator.{Yields}
use Rattle.std.specs.Slice.Iter.{iter_rest}
use Rattle.std.proofs.lemmas.List.Folds.{list_any-append}
use Rattle.std.proofs.lemmas.List.Sums.{take_while-cons}
use Rattle.std.proofs.lemmas.Iterator.{YieldsList}
use Rattle.std.proofs.lemmas.Iterator.Adapters.{YieldsList-from_rev_slice}
use Rattle.std.proofs.lemmas.Iterator.Search.{YieldsList-from_take_while}
use Rattle.std.proofs.lemmas.Iterator.Consumers.{YieldsList-at, YieldsList-end}
use Rattle.cases.specs.Literals.{complement}
use Rattle.literals.specs.Members.{member}
use Rattle.shortlists.specs.ShortLists.{items_in}
use Rattle.trails.specs.declared.entry.Entry.{Entry}
use Rattle.trails.specs.Entries.{entry_of, trail_of}
use Rattle.trails.specs.Trails.{listed}
use Rattle.trails.proofs.Held.{has_complement_bit}
use Rattle.trails.proofs.Levels.{block, block_is}
use Rattle.trails.proofs.trail.Trail.top_complements.Goals as goal

or_turn : (a b : Bool) → (a || b) ≡ (b || (a || false))
or_turn true true = refl
or_turn true false = refl
or_turn false true = refl
or_turn false false = refl

any_lent : (p : Entry → Bool) (es : List (Bor Entry)) → list_any (λ e. p e.now) es ≡ list_any p (map (λ e. e.now) es)
any_lent p [] = refl
any_lent p (e ∷ es) = ap (λ b. p e.now || b) (any_lent p es)

-- the newest entries that have a level
block_any : (k x : ℕ) (es : List Entry) → list_any (λ e. eqb e.literal (complement x)) (take_while (λ e. eqb e.level k) es) ≡ block k (map entry_of es) x
block_any k x [] = refl
block_any k x (e ∷ es) =
    ap (list_any (λ a. eqb a.literal (complement x))) (take_while-cons (λ a. eqb a.level k) e es)
    ∙ elim (eqb e.level k) as (λ b. list_any (λ a. eqb a.literal (complement x)) (cond b (e ∷ take_while (λ a. eqb a.level k) es) []) ≡ (b && (eqb e.literal (complement x) || block k (map entry_of es) x)))
    [ true ↦ ap (λ b. eqb e.literal (complement x) || b) (block_any k x es) | false ↦ refl ]

block_trail : (k x : ℕ) (es : List Entry) → block k (map entry_of (reverse es)) x ≡ block k (trail_of es) x
unfolding trail_of
block_trail k x es = refl

-- `YieldsList-end`, which learns from the run which chain it is
all_yielded : {S A B : Type 0} {steps : S → Option A → S → Type 0} {v : A → B} {s : S} {all : List B} → (xs : List A) (t : S) → Yields steps s xs t → (r : Option A) (u : S) → r ≡ None → steps t r u → YieldsList steps v s all → map v xs ≡ all
all_yielded xs t y r u e h road = (YieldsList-end road xs t y r u e h).0

pub loop-e-init : goal.loop-e-init
loop-e-init c = c.empty-set.ensures

pub loop-e-preserved : goal.loop-e-preserved
loop-e-preserved c x =
    let e = c.in-Some.e.now in
    let old = member c.loop-e.set x in
    c.insert.ensures x
    ∙ ap (λ (b : Bool). b || old) (ap (λ (z : ℕ). eqb x z && ltb x 128) c.opposite.ensures ∙ has_complement_bit x e.literal e.small)
    ∙ or_turn (eqb e.literal (complement x)) old
    ∙ ap (λ (b : Bool). b || (eqb e.literal (complement x) || false)) (c.loop-e.invariant x)
    ∙ sym (list_any-append (λ a. eqb a.now.literal (complement x)) c.loop-e.yielded (c.in-Some.e ∷ []))

pub returns : goal.returns
returns c x =
    let t = c.args.self.now in
    let es = (items_in t.entries) in
    let k = c.level-level.result in
    let p : Entry → Bool = λ e. eqb e.literal (complement x) in
    let end = all_yielded c.loop-e.yielded _ c.loop-e.yielded_by _ _ c.in-None.is c.next.ensures.steps
    (YieldsList-at c.into_iter-e-iterator.ensures.into_iter_gives
    (YieldsList-from_take_while _ (λ (e : Entry). eqb e.level k)
    (YieldsList-from_rev_slice es (ap (λ s. iter_rest s.iter) c.take_while-e-items.ensures.source ∙ ap iter_rest c.rev.ensures.source ∙ c.iter.ensures.rest ∙ c.deref.ensures.0))
    c.take_while-e-items.ensures.closure c.take_while-e-items.ensures.done (λ a b q h. search (rules, tests))))
    in
    c.loop-e.invariant x ∙ any_lent p c.loop-e.yielded ∙ ap (list_any p) end ∙ block_any k x (reverse es) ∙ block_trail k x es
    ∙ ap (λ (j : ℕ). block j (listed t) x) c.level-level.ensures.answers
    ∙ block_is _ (listed t) x t.levelled (omega arith)
