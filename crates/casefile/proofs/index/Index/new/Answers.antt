use Rattle.std.proofs.Common.{refl}
use Rattle.casefile.proofs.Notes.{index_blank}
use Rattle.casefile.proofs.index.Index.new.Goals as goal

pub returns-clause-blank : goal.returns-clause-blank
returns-clause-blank c = λ xs. index_blank xs _ 0 refl refl refl refl
