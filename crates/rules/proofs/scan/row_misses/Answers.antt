use Rattle.std.proofs.Common.{Bool, ◌&&◌, sym, ap, ◌∙◌}
use Rattle.literals.specs.Members.{member}
use Rattle.rules.specs.Force.{row}
use Rattle.rules.proofs.Scans.{misses_told}
use Rattle.rules.proofs.scan.row_misses.Goals as goal

pub returns : goal.returns
returns c =
    let S = member c.args.set.now in
    let C = row c.args.learned.now c.args.j in
    sym (misses_told S C (member c.meet.result) c.is_empty.result (λ k. c.meet.ensures k ∙ ap (λ (b : Bool). b && S k) (c.row.ensures k)) c.is_empty.ensures.yes c.is_empty.ensures.no)
