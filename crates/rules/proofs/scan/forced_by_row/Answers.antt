use Rattle.std.proofs.Common.{Bool, ◌&&◌, sym, ap, ◌∙◌}
use Rattle.literals.specs.Members.{member}
use Rattle.rules.specs.Force.{row}
use Rattle.rules.proofs.Scans.{forces_only, forces_only_settled, forces_many}
use Rattle.rules.proofs.scan.forced_by_row.Goals as goal

pub returns-in_err-l : goal.returns-in_err-l
returns-in_err-l c =
    let S = member c.args.set.now in
    let C = row c.args.learned.now c.args.j in
    rw c.from_residual.ensures
    (forces_many S C (member c.args.settled.now) (member c.meet.result) (λ k. c.meet.ensures k ∙ ap (λ (b : Bool). b && S k) (c.row.ensures k))
    (λ l h one. c.in_err-l.ensures l (record { is_literal = h; is_alone = one })))

pub returns-then-has : goal.returns-then-has
returns-then-has c =
    let S = member c.args.set.now in
    let C = row c.args.learned.now c.args.j in
    let only = c.in_ok-l.ensures in
    forces_only_settled S C (member c.args.settled.now) (member c.meet.result) (λ k. c.meet.ensures k ∙ ap (λ (b : Bool). b && S k) (c.row.ensures k)) c.in_ok-l.l
    only.is_literal only.is_alone (sym c.if-has.ensures)

pub returns-else-has : goal.returns-else-has
returns-else-has c =
    let S = member c.args.set.now in
    let C = row c.args.learned.now c.args.j in
    let only = c.in_ok-l.ensures in
    let one =
    forces_only S C (member c.args.settled.now) (member c.meet.result) (λ k. c.meet.ensures k ∙ ap (λ (b : Bool). b && S k) (c.row.ensures k)) c.in_ok-l.l
    only.is_literal only.is_alone (sym c.if-has.ensures) in
    (one.0, one.1, only.is_literal)
