-- A literal of the options below is read down exactly if its mark is on.
use Rattle.std.proofs.Common.{◌≡◌, ℕ, ◌+◌, ◌*◌, ◌<◌, Bool, cond, ◌&&◌, List, sym, ap, ap₂, arith}
use Rattle.std.proofs.lemmas.Bool.{lt-ltb}
use Rattle.cases.specs.Counted.{counted}
use Rattle.layers.specs.declared.setting.Setting.TheVariants.{On, Off, Open}
use Rattle.layers.specs.Readings.{is_on, read_down, setting_in, settings}
use Rattle.layers.proofs.Filling.{counted_alike}

pub read_below : (n : ℕ) (c : List Bool) (l : ℕ) → l < 2 * n → is_on c l ≡ read_down n c l
unfolding read_down
read_below n c l h = ap (λ (b : Bool). b && is_on c l) (sym (lt-ltb l (2 * n) h))

-- How the marks of a choice set the options below, read one by one.
pub settings_read : (n : ℕ) (c : List Bool) → counted (setting_in (is_on c)) n ≡ settings n (read_down n c)
settings_read n c =
    counted_alike (setting_in (is_on c)) (setting_in (read_down n c)) n
    (λ v h. ap₂ (λ (a b : Bool). cond a On (cond b Off Open)) (read_below n c (2 * v) (omega arith)) (read_below n c (2 * v + 1) (omega arith)))
