use Rattle.std.proofs.Common.{◌≡◌, ◌+◌, ◌-◌, ◌<◌, length, arith}
use Rattle.calculus.specs.Scans.{first}
use Rattle.calculus.specs.States.{clause}
use Rattle.literals.specs.Members.{member}
use Rattle.tables.specs.Learned.{rows_of}
use Rattle.tables.proofs.Facts.{length-rows}
use Rattle.rules.specs.Force.{all_rules, all_clauses}
use Rattle.rules.specs.Scans.{span, within, forces}
use Rattle.rules.proofs.Clauses.{clause_rule, clause_row}
use Rattle.rules.proofs.Scans.{in_rules, in_rows, nowhere}
use Rattle.rules.proofs.force.Rules.first_forcing.Goals as goal

-- where the loop over the rules ended, none of them forces a literal
pub returns-in-Some : goal.returns-in-Some
returns-in-Some g c =
    let f = c.args.self.now.force.now in
    let ls = c.args.self.now.learned.now in
    let S = member c.args.set.now in
    let w = c.in-Some.ensures in
    let e = c.in_force-count.ensures in
    let h : c.loop-r.r < length (all_rules f) = omega (arith, e.answers) in (
      in_rules f ls (forces S (member c.args.settled.now)) c.loop-r.r h c.loop-r.invariant w.0,
      rw (clause_rule f ls c.loop-r.r h) w.1,
      w.2,
      omega (arith, e.few),
    )

pub returns-in-Some-forced_by_row : goal.returns-in-Some-forced_by_row
returns-in-Some-forced_by_row g c =
    let f = c.args.self.now.force.now in
    let ls = c.args.self.now.learned.now in
    let S = member c.args.set.now in
    let w = c.in-Some-forced_by_row.ensures in
    let e = c.in_force-count.ensures in
    let n = length (all_rules f) in
    let j = c.loop-j.j in
    let h : j < length (rows_of ls) = omega (arith, c.len-j-end.ensures.answers) in
    let k : n + j - n ≡ j = omega arith in
    let found = in_rows f ls (forces S (member c.args.settled.now)) j h (λ q l. c.loop-r.invariant q (omega (arith, e.answers))) c.loop-j.invariant w.0 in
    let literal : c.in-Some-forced_by_row.l ≡ first span (within S (clause (all_clauses f ls) (n + j))) = rw (clause_row f ls (n + j) (omega arith), k) w.1 in
    rw e.answers (found, literal, w.2, omega (arith, e.answers, e.few, length-rows ls))

pub returns : goal.returns
returns g c =
    nowhere c.args.self.now.force.now c.args.self.now.learned.now (forces (member c.args.set.now) (member c.args.settled.now))
    (λ q l. c.loop-r.invariant q (omega (arith, c.in_force-count.ensures.answers))) (λ q l. c.loop-j.invariant q (omega (arith, c.len-j-end.ensures.answers)))
