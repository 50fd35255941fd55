-- Two cases within the limits that answer alike mean the same, and so do the layers over them.
use Rattle.std.proofs.Common.{◌≡◌, ◌*◌, [], get_or, sym, refl, ap, ◌∙◌, subst}
use Rattle.std.proofs.lemmas.List.{ext_get_or}
use Rattle.std.proofs.lemmas.Bool.{true≢false, false≢true}
use Rattle.cases.specs.Meanings.{Meaning, Sound, oversize, sound, rules_of, amounts_of}
use Rattle.cases.specs.Limits.{Limited}
use Rattle.layers.specs.Tariffs.{tariffed}
use Rattle.groups.specs.Groups.{grouped}
use Rattle.wishes.specs.Wishes.{wishing}
use Rattle.layers.specs.Opens.{opened}
use Rattle.piles.specs.Laws.{Alike, LayersAlike}

same_amounts : (m t : Meaning) → Limited m → Limited t → Alike m t → amounts_of m ≡ amounts_of t
same_amounts m t h k a = ext_get_or 0 (amounts_of m) (amounts_of t) (h.amount_each ∙ ap (λ n. 2 * n) a.options ∙ sym k.amount_each) (λ l _. a.amounts l)

same_rules : (m t : Meaning) → Alike m t → rules_of m ≡ rules_of t
same_rules m t a = ext_get_or [] (rules_of m) (rules_of t) a.rules (λ r _. ext_get_or 255 (get_or (rules_of m) r []) (get_or (rules_of t) r []) (a.lengths r) (λ j _. a.literals r j))

same_sound : (s u : Sound) → s.options ≡ u.options → s.amounts ≡ u.amounts → s.rules ≡ u.rules → s ≡ u
same_sound s u p q r =
    ap (λ n. record { options = n; amounts = s.amounts; rules = s.rules }) p
    ∙ ap (λ xs. record { options = u.options; amounts = xs; rules = s.rules }) q
    ∙ ap (λ xs. record { options = u.options; amounts = u.amounts; rules = xs }) r

same_meaning : (m t : Meaning) → Limited m → Limited t → Alike m t → m ≡ t
same_meaning oversize oversize h k a = refl
same_meaning oversize (sound u) h k a = absurd (true≢false a.oversize)
same_meaning (sound s) oversize h k a = absurd (false≢true a.oversize)
same_meaning (sound s) (sound u) h k a = ap sound (same_sound s u a.options (same_amounts (sound s) (sound u) h k a) (same_rules (sound s) (sound u) a))

alike : (f : Meaning → Meaning) (m t : Meaning) → m ≡ t → Alike (f m) (f t)
alike f m t e =
    subst (λ x. Alike (f m) (f x)) e
    (record { oversize = refl; options = refl; rules = refl; lengths = λ r. refl; literals = λ r j. refl; amounts = λ l. refl })

pub layers_alike : (m t : Meaning) → Limited m → Limited t → Alike m t → LayersAlike m t
layers_alike m t h k a =
    let e = same_meaning m t h k a in
    record { tariffs = alike tariffed m t e; groups = λ gs. alike (grouped gs) m t e; wishes = λ ws. alike (wishing ws) m t e; opens = alike opened m t e }
