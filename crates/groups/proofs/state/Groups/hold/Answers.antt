use Rattle.std.proofs.Common.{◌+◌, List, [], ◌∷◌, ℕ, length, sym, ap, ◌∙◌, ap₂, arith, length-append}
use Rattle.cases.specs.Meanings.{is_oversize}
use Rattle.groups.specs.Groups.{group_rules, grouped}
use Rattle.groups.specs.Facts.Groups.{length-pair_rules}
use Rattle.groups.specs.Facts.GroupLayers.{groups_of, lists_of_more, group_rules_more}
use Rattle.groups.proofs.state.Groups.hold.Goals as goal

pub invariant_of-self : goal.invariant_of-self
invariant_of-self g c =
    let s = c.args.self.now in
    let xs = c.args.options.now in
    let more = lists_of_more s.groups c.push.new.self c.of.result xs c.push.ensures.items c.of.ensures in
    record {
      few = omega (arith, ap length c.push.ensures.items, length-append s.groups.items (c.of.result ∷ []), c.requires.room);
      paired = ap₂ (λ a b. a + b) s.paired (c.pair_count.ensures.value ∙ sym (length-pair_rules xs)) ∙ sym (ap (λ x. length (group_rules x)) more ∙ group_rules_more (groups_of s) xs);
      fits = λ _. ap (λ (gs : List (List ℕ)). is_oversize (grouped gs (g.C.Case.meaning s.below))) more ∙ c.requires.fits;
    }
