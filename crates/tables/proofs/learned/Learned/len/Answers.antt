use Rattle.std.proofs.Common.{sym}
use Rattle.tables.proofs.Facts.{len_rows}
use Rattle.tables.proofs.learned.Learned.len.Goals as goal

pub returns-clause-answers : goal.returns-clause-answers
returns-clause-answers c = sym (len_rows c.args.self.now)
