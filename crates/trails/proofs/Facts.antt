-- What every trail keeps: its levels are right, it sets no option twice, and it is short.
use Rattle.std.proofs.Common.{◌≡◌, ℕ, ◌<◌, ◌≤◌, true, length, arith}
use Rattle.calculus.specs.Trails.{on, Levelled}
use Rattle.calculus.proofs.Trails as calculus
use Rattle.calculus.proofs.Trails.{Distinct}
use Rattle.shortlists.specs.ShortLists.{items_in}
use Rattle.trails.specs.declared.trail.Trail.{Trail}
use Rattle.trails.specs.Trails.{listed}
use Rattle.trails.proofs.Entries.{length-trail}
use Rattle.trails.proofs.Held.{apart_of}

pub levelled : (t : Trail) → Levelled (listed t)
levelled t = t.levelled

pub apart : (t : Trail) → Distinct 64 (listed t)
apart t = apart_of (items_in t.entries) t.was_unset t.was_not_false

pub few : (t : Trail) → length (listed t) ≤ 56
few t = omega (arith, length-trail (items_in t.entries), t.low)

pub literals_small : (t : Trail) (x : ℕ) → on (listed t) x ≡ true → x < 128
literals_small t x h = calculus.on_range 64 (listed t) x (apart t) h
