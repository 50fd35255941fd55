use Rattle.std.proofs.Common.{refl}
use Rattle.casefile.specs.Laws.{empty_file}
use Rattle.casefile.specs.Files.{parse, judge_from}
use Rattle.casefile.specs.Facts.Whole.{below_octets}
use Rattle.casefile.proofs.file.FileCase.empty.Goals as goal

pub invariant_of-result : goal.invariant_of-result
unfolding parse judge_from
invariant_of-result c =
    let f = (c.new.ensures.blank empty_file).0 in
    record { octets = below_octets empty_file refl; accepted = refl; counted = f.counted; ruled = f.ruled; priced = f.priced; inside = f.inside; sized = f.sized; same = f.same }
