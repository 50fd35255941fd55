use Rattle.std.proofs.Common.{sym, ap, ◌∙◌, add-one}
use Rattle.calculus.specs.Trails.{opened}
use Rattle.trails.specs.declared.entry.Reason.{Reason}
use Rattle.trails.specs.Entries.{reason_of}
use Rattle.trails.proofs.entry.Reason.opens.Goals as goal

pub returns-in-Decided : goal.returns-in-Decided
unfolding opened
returns-in-Decided c = add-one c.args.k ∙ sym (ap (λ (r : Reason). opened (reason_of r) c.args.k) c.in-Decided.is)

pub returns-in-Forced : goal.returns-in-Forced
unfolding opened
returns-in-Forced c = sym (ap (λ (r : Reason). opened (reason_of r) c.args.k) c.in-Forced.is)
