-- Searches by the lists of calls that led to them.
use Rattle.std.specs.Prelude.{◌≡◌, List, [], ◌∷◌, ◌++◌}
use Rattle.cases.specs.Meanings.{Meaning}
use Rattle.cases.specs.declared.case.Case.{Ghosts as CaseGhosts}
use Rattle.charges.specs.declared.charge.Charge.{Ghosts as ChargeGhosts}
use Rattle.charges.specs.Kinds.{Kind}
use Rattle.charges.specs.Charges.{contents}
use Rattle.calculus.specs.Calls.{Call}
use Rattle.calculus.specs.Promises.{Promises}
use Rattle.calculus.specs.Piles.{call_on, after, book}
use Rattle.steps.specs.States.{NotedRight}
use Rattle.search.specs.declared.search.Search.{Search}
use Rattle.search.specs.Stands.{stands}

-- The calls of h on a new search over a pile that means p lead to this search: its state is that of the definition, and each
-- learned row notes whether it is the reason of a literal.
pub record LedBy {P : Type 0} {C : CaseGhosts P} (K : Kind) {D : ChargeGhosts K.charges} (p : Meaning) (h : List Call) (x : Search P K.charges C D) : Type 0 where
  pub state : stands K p x ≡ after K p h
  pub noted : NotedRight p x.tables

-- Led by h, with all that is promised after h.
pub record KeepsPromises {P : Type 0} {C : CaseGhosts P} (K : Kind) {D : ChargeGhosts K.charges} (p : Meaning) (h : List Call) (x : Search P K.charges C D) : Type 0 where
  pub led : LedBy K p h x
  pub promises : Promises K (contents p) (stands K p x) (book p h)

-- What the call c makes of a search: the state is that of the definition. And whatever calls led to the search at entry, these
-- and c lead to the search at exit, of which all that is promised holds.
pub record MadeBy {P : Type 0} {C : CaseGhosts P} (K : Kind) {D : ChargeGhosts K.charges} (p : Meaning) (entry exit : Search P K.charges C D) (c : Call) : Type 0 where
  pub leaves : stands K p exit ≡ call_on K p (stands K p entry) c
  pub continues : (h : List Call) → LedBy K p h entry → KeepsPromises K p (h ++ (c ∷ [])) exit
