-- What is reported of a byte string.
use Rattle.std.specs.Prelude.{ℕ, Bool, true, false, List, ◌++◌, length, Ok, Err, codes, decimal, Result, nat_le}
use Rattle.cases.specs.Meanings.{sound}
use Rattle.cases.specs.Summaries.{summary_of}
use Rattle.cases.specs.declared.summary.Summary.{Summary}
use Rattle.cases.specs.Refusals.{number_of}
use Rattle.cases.specs.declared.refusal.Refusal.{Refusal}
use Rattle.casefile.specs.declared.fault.FileRefusal.{FileRefusal}
use Rattle.casefile.specs.Files.{Outcome, accepted, refused}
use Rattle.casefile.specs.Bytes.{fitted, filled}
use Rattle.layers.specs.Tariffs.{tariffed}
use Rattle.caseinfo.specs.declared.report.Report.{Report}

-- By what the bytes xs are, and by the buffer that they are written into again: the summary of the meaning, the length, what
-- the writer answers, whether it wrote the same bytes, and the summary of the tariff over it; or the refusal.
abbrev pub report_of : Outcome → List ℕ → List ℕ → Result Report FileRefusal
report_of (accepted m) xs old =
    Ok (record {
      summary = summary_of (sound m);
      bytes = length xs;
      again = record { written = fitted xs old; equal = nat_le (length xs) (length old) };
      tariff = record { summary = summary_of (tariffed (sound m)) };
    })
report_of (refused e i) xs old = Err (record { fault = e; place = i })

abbrev pub copy_after : Outcome → List ℕ → List ℕ → List ℕ
copy_after (accepted m) xs old = filled xs old
copy_after (refused e i) xs old = old

-- The lines that are printed.
abbrev pub same_word : Bool → List ℕ
same_word true = codes "equal"
same_word false = codes "different"

abbrev pub again_line : Result ℕ Refusal → Bool → List ℕ
again_line (Ok n) equal = codes "written again " ++ (decimal n ++ (codes " " ++ same_word equal))
again_line (Err e) equal = codes "written again refused " ++ decimal (number_of e)

abbrev pub tariff_lines : Summary → List ℕ
tariff_lines s =
    codes "tariff options " ++ (decimal s.options ++ (codes "\ntariff rules " ++ (decimal s.rules ++ (codes "\ntariff total " ++ decimal s.total))))

abbrev pub lines : Report → List ℕ
lines r =
    codes "options " ++ (decimal r.summary.options
    ++ (codes "\namounts " ++ (decimal r.summary.amounts
    ++ (codes "\nrules " ++ (decimal r.summary.rules
    ++ (codes "\nlongest " ++ (decimal r.summary.longest
    ++ (codes "\nbytes " ++ (decimal r.bytes ++ (codes "\n" ++ again_line r.again.written r.again.equal))))))))))
