use Rattle.std.proofs.Common.{refl}
use Rattle.casefile.proofs.Notes.{note_options}
use Rattle.casefile.proofs.index.Index.note_options.Goals as goal

pub returns : goal.returns
returns c = record { noted = λ xs s f. note_options xs c.new.result _ s c.args.n (c.new.ensures.blank xs) c.if-n-gt-MOST_OPTIONS.false refl refl refl refl }
