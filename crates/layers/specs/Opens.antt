-- The open layer: option l on stands for literal l below, so that an option below may be on, off or neither.
use Rattle.std.specs.Prelude.{ℕ, ◌+◌, ◌*◌, ◌/◌, ◌%◌, cond, ◌&&◌, List, [], ◌∷◌, ◌++◌, map, ◌==◌, nat_le, slice_index}
use Rattle.cases.specs.Meanings.{Meaning, Sound}
use Rattle.cases.specs.Limits.{most_options, most_rules}
use Rattle.cases.specs.Counted.{counted}
use Rattle.layers.specs.Layered.{Room, layered}

-- The literal that sets option l on.
abbrev pub mark : ℕ → ℕ
mark l = 2 * l

-- Option v below is not both on and off.
abbrev pub not_both : ℕ → List ℕ
not_both v = (4 * v + 1) ∷ (4 * v + 3) ∷ []

-- A mark that is on has the amount of its literal below, one that is off has 0.
abbrev pub mark_amount : List ℕ → ℕ → ℕ
mark_amount amounts l = cond (l % 2 == 0) (slice_index amounts (l / 2)) 0

abbrev pub open_sound : Sound → Sound
open_sound s = record {
  options = 2 * s.options;
  amounts = counted (mark_amount s.amounts) (2 * (2 * s.options));
  rules = map (map mark) s.rules ++ counted not_both s.options;
}

abbrev pub open_room : Room
open_room n k = nat_le (2 * n) most_options && nat_le (k + n) most_rules

abbrev pub opened : Meaning → Meaning
opened m = layered open_room open_sound m
