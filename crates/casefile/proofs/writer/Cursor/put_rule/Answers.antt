use Rattle.std.proofs.Common.{ℕ, ◌+◌, ◌<◌, List, [], ◌∷◌, ◌++◌, length, get_or, take, sym, ap, subst, ◌∙◌, arith}
use Rattle.std.proofs.lemmas.List.{take_all, take_more, length-take-le}
use Rattle.cases.specs.Meanings.{rules_of}
use Rattle.casefile.specs.Bytes.{field}
use Rattle.casefile.specs.Inner.Writing.{Room, Wrote}
use Rattle.casefile.proofs.Over.{room_next, wrote_next}
use Rattle.casefile.proofs.writer.Cursor.put_rule.Goals as goal

pub loop-j-preserved : goal.loop-j-preserved
loop-j-preserved g c =
    let ls = get_or (rules_of (g.C.Case.meaning c.args.case.now)) c.args.r [] in
    let j = c.loop-j.j in
    let h : j < length ls = omega arith in
    let room : Room c.put.new.self ls = room_next c.args.self.now c.put.new.self (field 3 ls) _ ls (field 3 ls) c.requires (ap (λ (n : ℕ). 3 ∷ 0 ∷ n ∷ ls) (sym c.rule_len-len.ensures)) (omega arith) c.put.ensures in
    wrote_next c.put.new.self c.loop-j.self c.put-in-loop-j.new.self ls (take j ls) _ _ room (take_more ls j 255 h ∙ ap (λ (x : ℕ). take j ls ++ x ∷ []) (sym c.literal.ensures)) (omega (arith, length-take-le (j + 1) ls (omega arith))) c.loop-j.invariant c.put-in-loop-j.ensures

pub returns : goal.returns
returns g c =
    let ls = get_or (rules_of (g.C.Case.meaning c.args.case.now)) c.args.r [] in
    let done = subst (λ (z : List ℕ). Wrote c.put.new.self z c.loop-j.self) (take_all c.loop-j.j ls (omega arith)) c.loop-j.invariant in
    wrote_next c.args.self.now c.put.new.self c.loop-j.self (field 3 ls) _ ls (field 3 ls) c.requires (ap (λ (n : ℕ). 3 ∷ 0 ∷ n ∷ ls) (sym c.rule_len-len.ensures)) (omega arith) c.put.ensures done
