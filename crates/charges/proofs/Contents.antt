-- What a case tells is what its questions answer, by the definition of `contents`.
use Rattle.std.proofs.Common.{◌≡◌, ℕ, get_or, sym, refl, ap, ◌∙◌}
use Rattle.cases.specs.Meanings.{Meaning, oversize, sound, options_of, amounts_of, rules_of, amount_of}
use Rattle.charges.specs.Kinds.{Kind}
use Rattle.charges.specs.Charges.{contents, price_of}

pub contents_options : (m : Meaning) → (contents m).options ≡ options_of m
contents_options oversize = refl
contents_options (sound s) = refl

pub contents_amounts : (m : Meaning) → (contents m).amounts ≡ amounts_of m
contents_amounts oversize = refl
contents_amounts (sound s) = refl

pub contents_rules : (m : Meaning) → (contents m).rules ≡ rules_of m
contents_rules oversize = refl
contents_rules (sound s) = refl

-- the price of the amount that a case answers for a literal
pub priced : (K : Kind) (m : Meaning) (l amount : ℕ) (price : K.charges) → amount ≡ amount_of m l → price ≡ K.price amount → price ≡ price_of K (contents m) l
unfolding price_of
priced K m l amount price e p = p ∙ ap K.price (e ∙ ap (λ xs. get_or xs l 0) (sym (contents_amounts m)))
