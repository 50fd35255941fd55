-- A choice keeps the rules of a group exactly if it sets no two of its options on.
use Rattle.std.proofs.Common.{◌≡◌, ℕ, zero, suc, ◌<◌, Bool, true, false, List, [], ◌∷◌, ◌++◌, map, length, get_or, sym, refl, subst, arith}
use lib.ListN.{length-map}
use Rattle.std.proofs.lemmas.List.{get_or-map}
use Rattle.cases.specs.Choices.{sets, keeps, keeps_all}
use Rattle.cases.specs.Meanings.{Meaning, is_oversize, rules_of}
use Rattle.groups.specs.Groups.{pair_rules, group_rules, grouped}
use Rattle.layers.specs.Apart.{not_together}
use Rattle.groups.specs.Facts.Groups.{group_rules_told}
use Rattle.groups.specs.GroupLaws.{NoTwoOn, GroupsHold}
use Rattle.layers.proofs.Keeping.{kept_left, kept_right, keeps_both, kept_at, keeps_each, kept_apart, apart_kept}

module _ (c : List Bool) where
  with_first : (a : ℕ) (bs : List ℕ) (j : ℕ) → j < length bs → get_or (map (not_together a) bs) j [] ≡ not_together a (get_or bs j 0)
  with_first a bs j h = get_or-map (not_together a) bs j 0 [] h

  group_kept : (g : List ℕ) → keeps_all (sets c) (pair_rules g) ≡ true → NoTwoOn c g
  group_kept [] h i j l k = absurd (omega arith)
  group_kept (a ∷ bs) h i zero l k = absurd (omega arith)
  group_kept (a ∷ bs) h zero (suc j) l k =
      let m : j < length bs = omega arith in
      kept_apart c a (get_or bs j 0)
      (subst (λ x. keeps (sets c) x ≡ true) (with_first a bs j m)
      (kept_at (sets c) (map (not_together a) bs) (kept_left (sets c) (map (not_together a) bs) (pair_rules bs) h) j (rw (length-map bs (not_together a)) m)))
  group_kept (a ∷ bs) h (suc i) (suc j) l k = group_kept bs (kept_right (sets c) (map (not_together a) bs) (pair_rules bs) h) i j (omega arith) (omega arith)

  group_keeps : (g : List ℕ) → NoTwoOn c g → keeps_all (sets c) (pair_rules g) ≡ true
  unfolding keeps_all
  group_keeps [] h = refl
  group_keeps (a ∷ bs) h =
      keeps_both (sets c) (map (not_together a) bs) (pair_rules bs)
      (keeps_each (sets c) (map (not_together a) bs)
      (λ j k.
      let m : j < length bs = rw (length-map bs (not_together a)) at k in
      subst (λ x. keeps (sets c) x ≡ true) (sym (with_first a bs j m)) (apart_kept c a (get_or bs j 0) (h 0 (suc j) (omega arith) (omega arith)))))
      (group_keeps bs (λ i j l k. h (suc i) (suc j) (omega arith) (omega arith)))

  groups_kept : (gs : List (List ℕ)) → keeps_all (sets c) (group_rules gs) ≡ true → (i : ℕ) → i < length gs → NoTwoOn c (get_or gs i [])
  groups_kept [] h i l = absurd (omega arith)
  groups_kept (g ∷ gs) h zero l = group_kept g (kept_left (sets c) (pair_rules g) (group_rules gs) h)
  groups_kept (g ∷ gs) h (suc i) l = groups_kept gs (kept_right (sets c) (pair_rules g) (group_rules gs) h) i (omega arith)

  groups_keep : (gs : List (List ℕ)) → ((i : ℕ) → i < length gs → NoTwoOn c (get_or gs i [])) → keeps_all (sets c) (group_rules gs) ≡ true
  unfolding keeps_all
  groups_keep [] h = refl
  groups_keep (g ∷ gs) h = keeps_both (sets c) (pair_rules g) (group_rules gs) (group_keeps g (h 0 (omega arith))) (groups_keep gs (λ i l. h (suc i) (omega arith)))

pub groups_hold : (gs : List (List ℕ)) (m : Meaning) → is_oversize (grouped gs m) ≡ false → GroupsHold gs m
groups_hold gs m fine =
    let told = group_rules_told gs m fine in
    record {
      kept = λ c h.
          let k : keeps_all (sets c) (rules_of m ++ group_rules gs) ≡ true = subst (λ rs. keeps_all (sets c) rs ≡ true) told h in
          (kept_left (sets c) (rules_of m) (group_rules gs) k, groups_kept c gs (kept_right (sets c) (rules_of m) (group_rules gs) k));
      keeps = λ c h k. subst (λ rs. keeps_all (sets c) rs ≡ true) (sym told) (keeps_both (sets c) (rules_of m) (group_rules gs) h (groups_keep c gs k));
    }
