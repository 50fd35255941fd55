use Rattle.std.proofs.Common.{◌≡◌, ℕ, ◌-◌, ◌<◌, ◌≤◌, length}
use Rattle.cases.specs.Meanings.{Sound}
use Rattle.casefile.specs.Files.{parse}
use Rattle.casefile.specs.Inner.Scanning.{scan_from}
use Rattle.casefile.specs.Inner.Indexes.{Follows, Reach}
use Rattle.casefile.specs.Facts.Whole.{Kept}
use Rattle.casefile.proofs.open.judge.Given as goal

-- the index follows some contents s of the fields before, and scanning on from there decides the whole file
abbrev pub invariant-loop-field : goal.invariant-loop-field
invariant-loop-field l =
    (l.reader.bytes.now ≡ l.bytes)
    × (l.reader.at ≤ length l.bytes)
    × ((s : Sound) × (f : ℕ) × Kept s × Follows l.bytes l.index s × Reach l.reader.phase s l.reader.at
    × (length l.bytes - l.reader.at < f) × (scan_from f s l.reader.phase l.bytes l.reader.at ≡ parse l.bytes))

abbrev pub decreases-loop-field : goal.decreases-loop-field
decreases-loop-field l = length l.bytes - l.reader.at
