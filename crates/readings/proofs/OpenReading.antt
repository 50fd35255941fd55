-- The verdict on an open layer, said of the partial choices below; from the open layer's laws.
use Rattle.std.proofs.Common.{◌≡◌, ◌*◌, Bool, false, List, sym, refl, ◌∙◌}
use Rattle.cases.specs.Choices.{sets}
use Rattle.cases.specs.Meanings.{Meaning, is_oversize, options_of}
use Rattle.cases.specs.Limits.{Limited}
use Rattle.charges.specs.Kinds.{Kind, Laws}
use Rattle.charges.specs.Charges.{contents, charge}
use Rattle.charges.proofs.Sets.{charge_same}
use Rattle.charges.proofs.Sums.{reflexive}
use Rattle.layers.specs.Opens.{open_sound, open_room, opened}
use Rattle.layers.specs.Readings.{read_down}
use Rattle.layers.specs.Facts.Layered.{where_sound}
use Rattle.layers.specs.Facts.Opens.{limited_opened}
use Rattle.layers.proofs.OpenLaw as law
use Rattle.piles.proofs.OpenCharges.{open_charged}
use Rattle.readings.specs.Readings.{OpenReadsDown, PartialKept}
use Rattle.readings.proofs.Lowering.{Lowers, says_below}

module _ (K : Kind) (laws : Laws K) (m : Meaning) (limited : Limited m) (fine : is_oversize (opened m) ≡ false) where
  options : options_of (opened m) ≡ 2 * options_of m
  options = where_sound open_room open_sound (λ m t. options_of t ≡ 2 * options_of m) (λ s _. refl) m fine

  charged : (c : List Bool) → charge K (contents (opened m)) (sets c) ≡ charge K (contents m) (read_down (options_of m) c)
  charged c =
      where_sound open_room open_sound (λ m t. charge K (contents t) (sets c) ≡ charge K (contents m) (read_down (options_of m) c)) (λ s _. open_charged K laws s c) m fine

  lowers : Lowers K (opened m) (read_down (options_of m)) (PartialKept m) (charge K (contents m))
  lowers =
      let h = law.open_reads_down m limited fine in
      record {
        fits = λ c k. let r = h.reads c k.kept in record { partial = r.0; kept = r.1 };
        costs = λ c k. rw (charged c) (reflexive K laws _);
        lifts =
            λ S f.
            let up = h.is_read S f.partial f.kept in
            let c = up.0 in
            (c, record { whole = up.1 ∙ sym options; kept = up.2 }, charged c ∙ charge_same K (contents m) (read_down (options_of m) c) S (λ l _. up.3 l));
      }

pub open_reads_down : (K : Kind) → Laws K → OpenReadsDown K
open_reads_down K laws m limited fine =
    says_below K laws (opened m) (limited_opened m limited) (read_down (options_of m)) (PartialKept m) (charge K (contents m)) (lowers K laws m limited fine)
