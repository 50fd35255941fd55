use Rattle.std.proofs.Common.{◌≡◌, ℕ, ◌<◌, ◌≤◌, Bool, false, cond, List, length, Some, None, Option, Err, ok_or, sym, refl, ap, ◌∙◌, arith}
use mathlib.Core.Option as core
use Rattle.std.proofs.lemmas.Result.{err_from_is_err_and}
use Rattle.std.proofs.lemmas.Bool.{lt-ltb, le-ltb}
use Rattle.cases.specs.Literals.{Literals}
use Rattle.cases.specs.declared.refusal.Refusal.TheVariants.{NoBest, ShortBuffer}
use Rattle.charges.specs.Kinds.{Kind}
use Rattle.charges.specs.Generic.{kind_of}
use Rattle.charges.specs.Charges.{contents}
use Rattle.charges.proofs.Contents.{contents_options}
use Rattle.cases.specs.Meanings.{Meaning, is_oversize}
use Rattle.calculus.specs.States.{State, Best}
use Rattle.calculus.specs.Changes.{choice_of}
use Rattle.calculus.specs.Calls as calls
use Rattle.calculus.specs.Piles.{answer_on}
use Rattle.calculus.proofs.Piles.{answer_oversize, answer_sound}
use Rattle.literals.specs.Members.{member}
use Rattle.steps.specs.States.{best_seen}
use Rattle.search.specs.Stands.{stands}
use Rattle.search.specs.Replies.{read_reply}
use Rattle.search.proofs.Led.{stays_made}
use Rattle.search.proofs.search.Search.read.Goals as goal

-- what a read answers on a sound pile
module _ (K : Kind) (p : Meaning) (s : State K) (size : ℕ) (sound : is_oversize p ≡ false) where
  read_none : s.best ≡ core.none → answer_on K p s (calls.read size) ≡ calls.refused NoBest
  unfolding calls.answer calls.reads
  read_none e = answer_sound K p s (calls.read size) sound ∙ ap (calls.reads K (contents p) size) e

  read_short : (b : Best K) → s.best ≡ core.some b → size < (contents p).options → answer_on K p s (calls.read size) ≡ calls.refused ShortBuffer
  unfolding calls.answer calls.reads
  read_short b e h =
      answer_sound K p s (calls.read size) sound ∙ ap (calls.reads K (contents p) size) e
      ∙ ap (λ (x : Bool). cond x (calls.refused ShortBuffer) (calls.shown b.choice b.charge)) (lt-ltb size (contents p).options h)

  read_shown : (b : Best K) → s.best ≡ core.some b → (contents p).options ≤ size → answer_on K p s (calls.read size) ≡ calls.shown b.choice b.charge
  unfolding calls.answer calls.reads
  read_shown b e h =
      answer_sound K p s (calls.read size) sound ∙ ap (calls.reads K (contents p) size) e
      ∙ ap (λ (x : Bool). cond x (calls.refused ShortBuffer) (calls.shown b.choice b.charge)) (le-ltb size (contents p).options h)

best_some : (K : Kind) (n : ℕ) (o : Option K.charges) (C : Literals) (k : K.charges) → o ≡ Some k
    → best_seen K n o C ≡ core.some (record { choice = choice_of n C; charge = k })
best_some K n o C k e = ap (λ x. best_seen K n x C) e

which_err : {T E : Type 0} (o : Option T) (e f : E) → o ≡ None → Err e ≡ ok_or o f → e ≡ f
which_err None e f h q = cc
which_err (Some x) e f h q = absurd (cc)

pub returns-then-oversize : goal.returns-then-oversize
unfolding calls.buffer_after calls.call
returns-then-oversize g c =
    let K = kind_of g.K.Charge in
    let x = c.args.self.now in
    let p = g.P.Case.meaning x.pile in
    let told = answer_oversize K p (stands K p x) (calls.read (length c.args.out.now)) (sym c.if-oversize.ensures) in
    record { answers = sym (ap read_reply told); writes = sym (ap (λ a. calls.buffer_after a c.args.out.now) told); history = stays_made K g.met.K.Charge.laws p (g.met.P.Case.limits x.pile) x (calls.read (length c.args.out.now)) refl refl }

pub returns-in_err-charge : goal.returns-in_err-charge
unfolding calls.buffer_after calls.call
returns-in_err-charge g c =
    let K = kind_of g.K.Charge in
    let x = c.args.self.now in
    let p = g.P.Case.meaning x.pile in
    let gone = c.in_err-charge.ensures.ok_part in
    let none = ap (λ o. best_seen K (contents p).options o (member x.tables.work.choice)) gone in
    let told = read_none K p (stands K p x) (length c.args.out.now) (sym c.if-oversize.ensures) none in
    let q = err_from_is_err_and c.from_residual.result c.from_residual.ensures.1 in
    record {
      answers = q.1 ∙ ap Err (q.2 ∙ which_err x.best _ NoBest gone c.in_err-charge.ensures.value) ∙ sym (ap read_reply told);
      writes = sym (ap (λ a. calls.buffer_after a c.args.out.now) told);
      history = stays_made K g.met.K.Charge.laws p (g.met.P.Case.limits x.pile) x (calls.read (length c.args.out.now)) refl refl;
    }

pub returns-then-out-n : goal.returns-then-out-n
unfolding calls.buffer_after calls.call
returns-then-out-n g c =
    let K = kind_of g.K.Charge in
    let x = c.args.self.now in
    let p = g.P.Case.meaning x.pile in
    let best = best_some K (contents p).options x.best (member x.tables.work.choice) c.in_ok-charge.charge c.in_ok-charge.ensures.ok_part in
    let told = read_short K p (stands K p x) (length c.args.out.now) (sym c.if-oversize.ensures) _ best (omega (arith, c.options-n.ensures, contents_options p, c.if-out-n.true)) in
    record { answers = sym (ap read_reply told); writes = sym (ap (λ a. calls.buffer_after a c.args.out.now) told); history = stays_made K g.met.K.Charge.laws p (g.met.P.Case.limits x.pile) x (calls.read (length c.args.out.now)) refl refl }

pub returns : goal.returns
unfolding calls.buffer_after calls.call
returns g c =
    let K = kind_of g.K.Charge in
    let x = c.args.self.now in
    let p = g.P.Case.meaning x.pile in
    let n = (contents p).options in
    let S = member x.tables.work.choice in
    let k = c.options-n.result in
    let same : k ≡ n = c.options-n.ensures ∙ sym (contents_options p) in
    let few : k ≤ 56 = omega (arith, c.options-n.ensures, (g.met.P.Case.limits x.pile).few_options) in
    let choice = c.chosen-choice.ensures.first k few ∙ ap (λ (i : ℕ). choice_of i S) same in
    let best = best_some K n x.best S c.in_ok-charge.charge c.in_ok-charge.ensures.ok_part in
    let told = read_shown K p (stands K p x) (length c.args.out.now) (sym c.if-oversize.ensures) _ best (omega (arith, c.options-n.ensures, contents_options p, c.if-out-n.false)) in
    record {
      answers = sym (ap read_reply told);
      writes = c.write_marks.ensures ∙ ap (λ (y : List Bool). calls.written y c.args.out.now) choice ∙ sym (ap (λ a. calls.buffer_after a c.args.out.now) told);
      history = stays_made K g.met.K.Charge.laws p (g.met.P.Case.limits x.pile) x (calls.read (length c.args.out.now)) refl refl;
    }
