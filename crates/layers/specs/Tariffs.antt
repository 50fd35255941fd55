-- The tariff layer: each amount below becomes its class.
use Rattle.std.specs.Prelude.{ℕ, min, List, [], ◌∷◌, map, slice_index}
use Rattle.cases.specs.Meanings.{Meaning, oversize, sound}

abbrev pub classes : List ℕ
classes = 0 ∷ 1 ∷ 2 ∷ 3 ∷ 5 ∷ 8 ∷ 12 ∷ 18 ∷ 27 ∷ 40 ∷ 60 ∷ 90 ∷ 135 ∷ 200 ∷ 300 ∷ 450 ∷ []

-- From 15 on every amount has the last class.
abbrev pub classed : ℕ → ℕ
classed a = slice_index classes (min a 15)

abbrev pub tariffed : Meaning → Meaning
tariffed oversize = oversize
tariffed (sound s) = sound (record { options = s.options; amounts = map classed s.amounts; rules = s.rules })
