use Rattle.std.proofs.Common.{◌≡◌, ℕ, ◌<◌, ◌≤◌, Bool, length, sym, ap, ◌∙◌, ap₂, ⊎_elim, not, ◌&&◌, eqb, ltb, arith}
use Rattle.std.proofs.lemmas.Bool.{lt-ltb, le-ltb, eq-eqb, ne_eqb, cases_lt}
use Rattle.trails.proofs.Entries.{length-trail}
use Rattle.shortlists.specs.ShortLists.{items_in}
use Rattle.literals.specs.Members.{member}
use Rattle.trails.specs.declared.trail.Trail.{Trail}
use Rattle.trails.specs.Trails.{listed, has_place}
use Rattle.trails.proofs.trail.Trail.can_join.Goals as goal

below_full : (n : ℕ) → n ≤ 56 → ltb n 56 ≡ not (eqb n 56)
below_full n h =
    ⊎_elim (λ (l : n < 56). lt-ltb n 56 l ∙ sym (ap not (ne_eqb n 56 (λ e. omega arith)))) (λ (l : 56 ≤ n). le-ltb n 56 l ∙ sym (ap not (eq-eqb n 56 (omega arith)))) (cases_lt n 56)

-- the test as the body makes it
test : (t : Trail) (l : ℕ) → has_place (listed t) l ≡ (not (eqb (length (items_in t.entries)) 56) && (ltb l 128 && (not (member t.set l) && not (member t.against l))))
test t l =
    ap₂ (λ (a b : Bool). a && b) (ap (λ (n : ℕ). ltb n 56) (length-trail (items_in t.entries)) ∙ below_full (length (items_in t.entries)) t.low)
    (ap₂ (λ (a b : Bool). ltb l 128 && (not a && not b)) (sym (t.told l)) (sym (t.opposed l)))

pub returns-then-not-has : goal.returns-then-not-has
returns-then-not-has c = let e = test c.args.self.now c.args.literal in grind (arith, e)

pub returns-else-not-has : goal.returns-else-not-has
returns-else-not-has c = let e = test c.args.self.now c.args.literal in grind (arith, e)
