-- A call that leaves what the definition says continues every list of calls.
use Rattle.std.proofs.Common.{◌≡◌, List, sym, subst}
use Rattle.cases.specs.Meanings.{Meaning}
use Rattle.cases.specs.Limits.{Limited}
use Rattle.cases.specs.declared.case.Case.{Ghosts as CaseGhosts}
use Rattle.charges.specs.declared.charge.Charge.{Ghosts as ChargeGhosts}
use Rattle.charges.specs.Kinds.{Kind, Laws}
use Rattle.charges.specs.Charges.{contents}
use Rattle.calculus.specs.States.{State}
use Rattle.calculus.specs.Calls.{Call, call}
use Rattle.calculus.specs.Promises.{Promises}
use Rattle.calculus.specs.Piles.{call_on, book}
use Rattle.calculus.proofs.Piles.{continues, promises_after}
use Rattle.steps.specs.States.{NotedRight}
use Rattle.search.specs.declared.search.Search.{Search}
use Rattle.search.specs.Stands.{stands}
use Rattle.search.proofs.Checking.{read_stays}
use Rattle.search.specs.Histories.{LedBy, KeepsPromises, MadeBy}

module _ {P : Type 0} {C : CaseGhosts P} (K : Kind) {D : ChargeGhosts K.charges} (laws : Laws K) (p : Meaning) (limited : Limited p) where
  -- the pile of each search means p
  pub made_by : (entry exit : Search P K.charges C D) (c : Call) → C.meaning exit.pile ≡ p → stands K p exit ≡ call_on K p (stands K p entry) c
      → MadeBy K p entry exit c
  made_by entry exit c same leaves =
      record {
        leaves = leaves;
        continues = λ h was.
            let w = (continues K laws p limited (stands K p entry) (stands K p exit) c leaves).keeps h was.state in
            record { led = record { state = w.0; noted = subst (λ (x : Meaning). NotedRight x exit.tables) same exit.noted }; promises = w.1 };
      }

  -- a call that only reads
  pub stays_made : (x : Search P K.charges C D) (c : Call) → C.meaning x.pile ≡ p → call K (contents p) (stands K p x) c ≡ stands K p x → MadeBy K p x x c
  stays_made x c same e = made_by x x c same (read_stays K p (stands K p x) c e)

  pub promised : (h : List Call) (x : Search P K.charges C D) → LedBy K p h x → KeepsPromises K p h x
  promised h x led =
      record { led = led; promises = subst (λ (s : State K). Promises K (contents p) s (book p h)) (sym led.state) (promises_after K laws p limited h) }
