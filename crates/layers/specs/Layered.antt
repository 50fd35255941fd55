-- What every layer does to the meaning of the case below it.
use Rattle.std.specs.Prelude.{◌≡◌, ℕ, ◌<◌, Bool, false, cond, List, length}
use Rattle.cases.specs.Meanings.{Meaning, Sound, oversize, sound, is_oversize, options_of, rules_of}

-- Whether a layer has room over a case of so many options and so many rules.
abbrev pub Room : Type 0
Room = ℕ → ℕ → Bool

abbrev pub room_over : Room → Meaning → Bool
room_over room m = room (options_of m) (length (rules_of m))

-- A layer makes a sound case of a sound case that it has room over; over any other case it is oversize.
abbrev pub layered : Room → (Sound → Sound) → Meaning → Meaning
layered room over oversize = oversize
layered room over (sound s) = cond (room s.options (length s.rules)) (sound (over s)) oversize

-- A layer that holds things is not oversize.
abbrev pub SoundIfHeld : {X : Type 0} → (List X → Meaning → Meaning) → List X → Meaning → Type 0
SoundIfHeld layer xs m = 0 < length xs → is_oversize (layer xs m) ≡ false
