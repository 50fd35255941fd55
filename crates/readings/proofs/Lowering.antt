-- What the verdict on a pile says of what its choices read down to, from the promises and from how choices and charges go down and up.
use Rattle.std.proofs.Common.{◌≡◌, Bool, true, List, [], sym, ap, ◌∙◌, subst}
use Rattle.cases.specs.Choices.{sets, keeps_all}
use Rattle.cases.specs.Meanings.{Meaning}
use Rattle.cases.specs.Limits.{Limited}
use Rattle.charges.specs.Kinds.{Kind, Laws}
use Rattle.charges.specs.Charges.{contents, charge}
use Rattle.charges.proofs.Contents.{contents_options, contents_rules}
use Rattle.calculus.specs.Books.{Book}
use Rattle.calculus.specs.Calls.{Call}
use Rattle.calculus.specs.Piles.{after, book}
use Rattle.calculus.specs.Promises.{Admitted}
use Rattle.calculus.proofs.Choices.{keeps-append, keeps_left}
use Rattle.calculus.proofs.Piles.{promises_kept}
use Rattle.readings.specs.Readings.{SaysBelow, ChoiceKept}

-- What a choice of t that keeps its rules reads down to fits, and costs no more; and whatever fits costs what some such
-- choice is charged.
pub record Lowers (K : Kind) (t : Meaning) {X : Type 0} (down : List Bool → X) (Fits : X → Type 0) (cost : X → K.charges) : Type 0 where
  pub fits : (c : List Bool) → ChoiceKept t c → Fits (down c)
  pub costs : (c : List Bool) → ChoiceKept t c → K.not_above (cost (down c)) (charge K (contents t) (sets c)) ≡ true
  pub lifts : (x : X) → Fits x → (c : List Bool) × ChoiceKept t c × (charge K (contents t) (sets c) ≡ cost x)

-- with no conditions, the choices admitted are those that keep the rules
module _ (t : Meaning) (b : Book) (none : b.conditions ≡ []) (c : List Bool) where
  admit : ChoiceKept t c → Admitted (contents t) b c
  unfolding keeps_all
  admit k =
      let free : keeps_all (sets c) b.conditions ≡ true = ap (keeps_all (sets c)) none in
      let rules : keeps_all (sets c) (contents t).rules ≡ true = ap (keeps_all (sets c)) (contents_rules t) ∙ k.kept in
      record { whole = k.whole ∙ sym (contents_options t); kept = keeps-append (sets c) (contents t).rules b.conditions rules free }

  admitted : Admitted (contents t) b c → ChoiceKept t c
  admitted a =
      let rules = keeps_left (sets c) (contents t).rules b.conditions a.kept in
      record { whole = a.whole ∙ contents_options t; kept = ap (keeps_all (sets c)) (sym (contents_rules t)) ∙ rules }

module _ (K : Kind) (laws : Laws K) (t : Meaning) (limited : Limited t) {X : Type 0} (down : List Bool → X) (Fits : X → Type 0) (cost : X → K.charges) where
  pub says_below : Lowers K t down Fits cost → (cs : List Call) → (book t cs).conditions ≡ [] → SaysBelow K t (after K t cs) down Fits cost
  says_below h cs none =
      let p = promises_kept K laws t limited cs in
      let b = book t cs in
      record {
        best_is_cheapest =
            λ v.
            let win = p.best_is_cheapest v in
            let c = win.0.choice in
            let k = admitted t b none c win.2.admitted in (
              win.0,
              win.1,
              record {
                fits = h.fits c k;
                not_above =
                    λ y f.
                    let up = h.lifts y f in
                    subst (λ (z : K.charges). K.not_above (cost (down c)) z ≡ true) up.2
                    (laws.transitive _ _ _ (h.costs c k) (win.2.not_above up.0 (admit t b none up.0 up.1)));
              },
            );
        none_fits = λ v x f. let up = h.lifts x f in p.none_admitted v up.0 (admit t b none up.0 up.1);
      }
