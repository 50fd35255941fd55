use Rattle.std.proofs.Common.{ap, ◌∙◌, rules}
use Rattle.casefile.specs.declared.file.FileCase.{FileCase}
use Rattle.casefile.specs.Files.{file_meaning}
use Rattle.cases.specs.Summaries.{summary_of}
use Rattle.layers.specs.Tariffs.{tariffed}
use Rattle.caseinfo.proofs.Copies as copies
use Rattle.caseinfo.proofs.report.inspect.Goals as goal

pub returns : goal.returns
returns c =
    let xs = c.args.bytes.now in
    let ys = c.in_ok-case.case.bytes.now in
    let old = c.args.copy.now in
    let r = c.rewrite-written.result in
    let new = c.rewrite-written.new.out in
    let t = c.is_ok_and-equal.result in
    let w = c.rewrite-written.ensures in
    let opened = c.in_ok-case.ensures in
    let over = c.of.ensures ∙ ap (λ (z : FileCase). summary_of (tariffed (file_meaning z.bytes.now))) c.new.ensures in
    record {
      answers = copies.answers xs ys old r new t opened.0 opened.1 w.answers w.leaves c.is_ok_and-equal.ensures (λ n h e. search rules) c.of-summary.result c.of-summary.ensures c.of.result over;
      leaves = copies.leaves xs ys old r new t opened.0 opened.1 w.answers w.leaves;
    }
