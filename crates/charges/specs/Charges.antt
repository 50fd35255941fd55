-- The charge of a set of literals, and of a list of them.
use Rattle.std.specs.Prelude.{◌≡◌, ℕ, zero, suc, ◌+◌, ◌*◌, ◌<◌, ◌≤◌, cond, List, [], ◌∷◌, ◌==◌, slice_index}
use Rattle.cases.specs.Meanings.{Meaning, Sound, oversize, sound}
use Rattle.cases.specs.Literals.{Literals}
use Rattle.charges.specs.Kinds.{Kind}

-- What a case tells: an oversize one tells no options, no amounts and no rules.
abbrev pub contents : Meaning → Sound
contents oversize = record { options = 0; amounts = []; rules = [] }
contents (sound s) = s

-- The price of a literal is that of its amount; where there is no such literal the amount is 0.
unfoldable pub price_of : (K : Kind) → Sound → ℕ → K.charges
price_of K s l = K.price (slice_index s.amounts l)

-- The sum of the prices of the literals below k that lie in the set S.
unfoldable pub charge_below : (K : Kind) → Sound → ℕ → Literals → K.charges
charge_below K s zero S = K.zero
charge_below K s (suc k) S = cond (S k) (K.sum (charge_below K s k S) (price_of K s k)) (charge_below K s k S)

-- The charge of a set of literals: the sum of the prices of those that exist.
unfoldable pub charge : (K : Kind) → Sound → Literals → K.charges
charge K s S = charge_below K s (2 * s.options) S

-- The sum of the prices of a list of literals, in order.
unfoldable pub total : (K : Kind) → Sound → List ℕ → K.charges
total K s [] = K.zero
total K s (l ∷ ls) = K.sum (price_of K s l) (total K s ls)

-- How often a literal stands in a list.
unfoldable pub count : ℕ → List ℕ → ℕ
count l [] = 0
count l (k ∷ ks) = cond (k == l) 1 0 + count l ks

-- A list that has no literal twice, and only literals that exist.
pub record Once (options : ℕ) (ls : List ℕ) : Type 0 where
  pub at_most_once : (l : ℕ) → count l ls ≤ 1
  pub exist : (l : ℕ) → 0 < count l ls → l < 2 * options

-- The order of a list does not matter: lists that have every literal equally often have one total.
abbrev pub OrderFree : Kind → Sound → Type 0
OrderFree K s = (ls ks : List ℕ) → ((l : ℕ) → count l ls ≡ count l ks) → total K s ls ≡ total K s ks
