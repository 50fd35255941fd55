-- What a choice of a layer is charged, said of the case below.
use Rattle.std.specs.Prelude.{◌≡◌, ℕ, ◌+◌, ◌<◌, Bool, cond, not, List, [], ◌∷◌, length, slice_index_or}
use Rattle.cases.specs.Literals.{Literals}
use Rattle.cases.specs.Choices.{sets, keeps}
use Rattle.cases.specs.Meanings.{Sound}
use Rattle.charges.specs.Kinds.{Kind}
use Rattle.charges.specs.Charges.{charge}
use Rattle.layers.specs.Opens.{open_sound}
use Rattle.layers.specs.Readings.{read_down, first_options, is_on}
use Rattle.wishes.specs.Wishes.{Wish, wish_sound}
use Rattle.wishes.specs.Facts.Wishes.{no_wish}

-- A choice of the open layer is charged what the partial choice is that it reads down to.
abbrev pub OpenCharged : Kind → Sound → Type 0
OpenCharged K s = (c : List Bool) → charge K (open_sound s) (sets c) ≡ charge K s (read_down s.options c)

-- The prices of the wishes that the literals of S do not keep.
unfoldable pub broken_prices : (K : Kind) → Literals → List Wish → K.charges
broken_prices K S [] = K.zero
broken_prices K S (w ∷ ws) = cond (keeps S w.literals) (broken_prices K S ws) (K.sum (K.price w.amount) (broken_prices K S ws))

-- The wish options that are on are exactly those of the wishes that the choice below breaks.
abbrev pub MarksBroken : ℕ → List Wish → List Bool → Type 0
MarksBroken n ws c = (i : ℕ) → i < length ws → is_on c (n + i) ≡ not (keeps (sets (first_options n c)) (slice_index_or ws i no_wish).literals)

-- Such a choice is charged what the choice below is, and the prices of the broken wishes.
abbrev pub WishCharged : Kind → List Wish → Sound → Type 0
WishCharged K ws s =
    (c : List Bool) → MarksBroken s.options ws c
    → charge K (wish_sound ws s) (sets c) ≡ K.sum (charge K s (sets (first_options s.options c))) (broken_prices K (sets (first_options s.options c)) ws)
