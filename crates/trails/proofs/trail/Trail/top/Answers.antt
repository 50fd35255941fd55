use Rattle.std.proofs.Common.{◌-◌, length, ap, ◌∙◌}
use Rattle.std.specs.List.{slice_get}
use Rattle.trails.proofs.Entries.{top_of}
use Rattle.trails.proofs.trail.Trail.top.Goals as goal

pub returns : goal.returns
returns c = top_of _ _ (c.copied.ensures ∙ c.last.ensures.value ∙ ap (λ es. slice_get es (length es - 1)) c.deref.ensures.0)
