-- What a verdict reads as.
use Rattle.std.specs.Prelude.{ℕ, List, codes}
use Rattle.search.specs.declared.verdict.Verdict.{Verdict}
use Rattle.search.specs.declared.verdict.Verdict.TheVariants.{Open, Cheapest, Impossible}

abbrev pub verdict_text : Verdict → List ℕ
verdict_text Open = codes "open"
verdict_text Cheapest = codes "cheapest"
verdict_text Impossible = codes "impossible"
