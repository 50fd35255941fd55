use Rattle.std.proofs.Common.{◌≡◌, ℕ, ◌≤◌, length, take, get_or}
use Rattle.calculus.specs.Learned.{renamed}
use Rattle.shortlists.specs.ShortLists.{items_in}
use Rattle.trails.specs.declared.entry.Entry.{Entry}
use Rattle.trails.specs.Entries.{trail_of}
use Rattle.trails.proofs.trail.acts.rename_all.Given as goal

abbrev pub invariant-loop-at : goal.invariant-loop-at
invariant-loop-at l =
    record {
      long : length (items_in l.entries) ≡ length (items_in l.initial.entries);
      done : trail_of (take l.at (items_in l.entries)) ≡ renamed l.gone (trail_of (take l.at (items_in l.initial.entries)));
      left : (k : ℕ) (d : Entry) → l.at ≤ k → get_or (items_in l.entries) k d ≡ get_or (items_in l.initial.entries) k d;
    }
