use Rattle.std.proofs.Common.{◌≡◌, ℕ, ◌*◌, ◌≤◌, Bool, true, false, cond, List, [], ◌∷◌, ◌++◌, refl, ap, ◌∙◌, arith}
use Rattle.charges.specs.Kinds.{Kind}
use Rattle.charges.specs.Generic.{kind_of}
use Rattle.charges.specs.Charges.{contents}
use Rattle.charges.proofs.Contents.{contents_options}
use Rattle.calculus.specs.States.{State, restarted}
use Rattle.calculus.specs.Calls.{added, breaks}
use Rattle.tables.specs.Conditions.{conditions_of, can_hold}
use Rattle.steps.specs.States.{state}
use Rattle.search.specs.Stands.{stands}
use Rattle.search.specs.Inner.Changes.{forgetting}
use Rattle.search.proofs.Checking.{add_held}
use Rattle.search.proofs.search.Search.take_in.Goals as goal

begun : {K : Kind} (s : State K) (r : List ℕ) (b : Bool) → restarted (s.conditions ++ (r ∷ [])) (forgetting b s).best (forgetting b s).learned ≡ added s r b
unfolding added
begun s r true = refl
begun s r false = refl

pub returns : goal.returns
unfolding restarted
returns g c =
    let K = kind_of g.K.Charge in
    let x = c.args.self.now in
    let p = g.P.Case.meaning x.pile in
    let n = (contents p).options in
    let s = stands K p x in
    let r = c.args.literals.now in
    let b = breaks s.best r in
    let old = c.forget_broken.new.self in
    let few : 2 * n ≤ 128 = omega (arith, contents_options p, (g.met.P.Case.limits x.pile).few_options) in
    let same = ap conditions_of c.forget_broken.ensures.holds in
    let fine : c.hold.result ≡ true = c.hold.ensures.answers ∙ ap (λ (cs : List (List ℕ)). can_hold cs r) same ∙ add_held (contents p) s.conditions r few c.requires in
    let more : conditions_of c.hold.new.self ≡ s.conditions ++ (r ∷ []) =
    c.hold.ensures.leaves ∙ ap (λ (y : Bool). cond y (conditions_of old.tables.conditions ++ (r ∷ [])) (conditions_of old.tables.conditions)) fine ∙ ap (λ (cs : List (List ℕ)). cs ++ (r ∷ [])) same in
    record {
      leaves =
          ap (state K n (conditions_of c.hold.new.self) old.best) c.restart.ensures.leaves ∙ ap (λ (cs : List (List ℕ)). restarted {K = K} cs (stands K p old).best (stands K p old).learned) more
          ∙ ap (λ (y : State K). restarted {K = K} (s.conditions ++ (r ∷ [])) y.best y.learned) c.forget_broken.ensures.leaves ∙ begun s r b;
      pile = c.forget_broken.ensures.pile;
    }
