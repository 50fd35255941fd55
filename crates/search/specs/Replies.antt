-- What a call answers, from the answer of the definition.
use Rattle.std.specs.Prelude.{ℕ, Ok, Err, Result}
use Rattle.cases.specs.declared.refusal.Refusal.{Refusal}
use Rattle.charges.specs.Kinds.{Kind}
use Rattle.calculus.specs.Runs as runs
use Rattle.calculus.specs.Calls as calls
use Rattle.search.specs.declared.verdict.Verdict.{Verdict}
use Rattle.search.specs.declared.verdict.Verdict.TheVariants.{Open, Cheapest, Impossible}

abbrev pub verdict_of : runs.Verdict → Verdict
verdict_of runs.open_yet = Open
verdict_of runs.cheapest = Cheapest
verdict_of runs.impossible = Impossible

-- The answer to add and withdraw; to run; to read; to tally. A call gets no answer but its own kind or a refusal.
abbrev pub done : {K : Kind} → calls.Answer K → Result (Unit {0}) Refusal
done calls.accepted = Ok tt
done (calls.refused e) = Err e
done (calls.ran k v) = Ok tt
done (calls.shown c p) = Ok tt
done (calls.counts c k) = Ok tt

abbrev pub run_reply : {K : Kind} → calls.Answer K → Result (ℕ × Verdict) Refusal
run_reply calls.accepted = Ok (0, Open)
run_reply (calls.refused e) = Err e
run_reply (calls.ran k v) = Ok (k, verdict_of v)
run_reply (calls.shown c p) = Ok (0, Open)
run_reply (calls.counts c k) = Ok (0, Open)

abbrev pub read_reply : {K : Kind} → calls.Answer K → Result K.charges Refusal
read_reply {K} calls.accepted = Ok K.zero
read_reply (calls.refused e) = Err e
read_reply {K} (calls.ran k v) = Ok K.zero
read_reply (calls.shown c p) = Ok p
read_reply {K} (calls.counts c k) = Ok K.zero

abbrev pub tally_reply : {K : Kind} → calls.Answer K → Result (ℕ × ℕ) Refusal
tally_reply calls.accepted = Ok (0, 0)
tally_reply (calls.refused e) = Err e
tally_reply (calls.ran k v) = Ok (0, 0)
tally_reply (calls.shown c p) = Ok (0, 0)
tally_reply (calls.counts c k) = Ok (c, k)
