-- Facts on any layer, all proved here; the values of ghost members lean on them, so they stand in specs/.
use Rattle.std.specs.Prelude.{◌≡◌, ℕ, ◌+◌, ◌-◌, ◌<◌, ◌≤◌, Bool, true, false, List, [], ◌∷◌, ◌++◌, length, get_or, slice_index_or, refl}
use Rattle.std.proofs.Common.{sym, ap, ap₂, subst, ◌∙◌, ⊎_elim, arith, length-append}
use Rattle.std.proofs.lemmas.Bool.{cond-true, cond-false, cond_both, cases_lt, both_ways}
use Rattle.std.proofs.lemmas.List.{get_or_append_left, get_or-append_right}
use Rattle.cases.specs.Meanings.{Meaning, Sound, oversize, sound, is_oversize, options_of, rules_of}
use Rattle.cases.specs.Limits.{Limited}
use Rattle.cases.specs.Facts.Limits.{limited_oversize}
use Rattle.layers.specs.Layered.{Room, layered, room_over, SoundIfHeld}

module _ (room : Room) (over : Sound → Sound) where
  pub no_room : (m : Meaning) → room_over room m ≡ false → layered room over m ≡ oversize
  no_room oversize e = refl
  no_room (sound s) e = cond-false (room_over room (sound s)) (sound (over s)) oversize e

  -- What holds of oversize beside oversize, and of what the layer makes beside what it is made of, holds wherever there
  -- is room.
  pub with_room : (P : Meaning → Meaning → Type 0) → P oversize oversize → ((s : Sound) → room_over room (sound s) ≡ true → P (sound s) (sound (over s)))
      → (m : Meaning) → room_over room m ≡ true → P m (layered room over m)
  with_room P none some oversize e = none
  with_room P none some (sound s) e = subst (P (sound s)) (sym (cond-true (room_over room (sound s)) (sound (over s)) oversize e)) (some s e)

  -- The same of a layer that is not oversize.
  pub where_sound : (P : Meaning → Meaning → Type 0) → ((s : Sound) → room_over room (sound s) ≡ true → P (sound s) (sound (over s)))
      → (m : Meaning) → is_oversize (layered room over m) ≡ false → P m (layered room over m)
  where_sound P some oversize = λ k. absurd (both_ways true k refl)
  where_sound P some (sound s) =
      cond_both (room_over room (sound s)) (sound (over s)) oversize (λ t. is_oversize t ≡ false → P (sound s) t) (λ e _. some s e) (λ _ k. absurd (both_ways true k refl))

  pub limited_layered : ((s : Sound) → room_over room (sound s) ≡ true → Limited (sound s) → Limited (sound (over s))) → (m : Meaning) → Limited m → Limited (layered room over m)
  limited_layered f oversize h = h
  limited_layered f (sound s) h = cond_both (room_over room (sound s)) (sound (over s)) oversize Limited (λ e. f s e h) (λ _. limited_oversize)

-- A layer that is not oversize where it holds things, and has room where it holds none: what holds of what it makes
-- beside what that is made of, and where it holds none of oversize beside oversize, holds over any case.
pub where_held : {X : Type 0} (room : List X → Room) (over : List X → Sound → Sound) (xs : List X) (m : Meaning) → room_over (room []) m ≡ true → SoundIfHeld (λ ys. layered (room ys) (over ys)) xs m
    → (P : Meaning → Meaning → Type 0) → (xs ≡ [] → P oversize oversize) → ((s : Sound) → P (sound s) (sound (over xs s))) → P m (layered (room xs) (over xs) m)
where_held room over [] m e h P none some = with_room (room []) (over []) P (none refl) (λ s _. some s) m e
where_held room over (x ∷ xs) m e h P none some = where_sound (room (x ∷ xs)) (over (x ∷ xs)) P (λ s _. some s) m (h (omega arith))

-- What a test of the room answers, of so many options and rules as are told.
pub room_told : (room : Room) (m : Meaning) {n k : ℕ} {b : Bool} → n ≡ options_of m → k ≡ length (rules_of m) → b ≡ room n k → room_over room m ≡ b
room_told room m options rules e = sym (e ∙ ap₂ room options rules)

-- What holds of each rule of either list, and of none, holds of each rule of both.
pub each_rule : (xs ys : List (List ℕ)) (P : List ℕ → Type 0) → ((r : ℕ) → r < length xs → P (slice_index_or xs r [])) → ((r : ℕ) → P (slice_index_or ys r [])) → (r : ℕ) → P (slice_index_or (xs ++ ys) r [])
each_rule xs ys P left right r =
    ⊎_elim (λ h. subst P (sym (get_or_append_left xs ys [] r h)) (left r h)) (λ h. subst P (sym (get_or-append_right xs ys (length xs) r [] refl h)) (right (r - length xs)))
    (cases_lt r (length xs))

-- A layer whose rules are those below and then some that it adds.
module _ (m t : Meaning) (added : List (List ℕ)) (e : rules_of t ≡ rules_of m ++ added) where
  pub rules_counted : length (rules_of t) ≡ length (rules_of m) + length added
  rules_counted = ap length e ∙ length-append (rules_of m) added

  pub rule_kept : (r : ℕ) → r < length (rules_of m) → slice_index_or (rules_of t) r [] ≡ slice_index_or (rules_of m) r []
  rule_kept r h = ap (λ x. get_or x r []) e ∙ get_or_append_left (rules_of m) added [] r h

  pub rule_added : (r : ℕ) → length (rules_of m) ≤ r → slice_index_or (rules_of t) r [] ≡ slice_index_or added (r - length (rules_of m)) []
  rule_added r h = ap (λ x. get_or x r []) e ∙ get_or-append_right (rules_of m) added (length (rules_of m)) r [] refl h
