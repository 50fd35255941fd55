use Rattle.std.proofs.Common.{ℕ, [], subst}
use Rattle.cases.specs.Meanings.{options_of, amounts_of, rules_of}
use Rattle.casefile.specs.Bytes.{field, options_field, amount_fields, rule_fields}
use Rattle.casefile.specs.Inner.Writing.{Wrote}
use Rattle.casefile.proofs.Over.{wrote_then}
use Rattle.casefile.proofs.writer.Cursor.put_case.Goals as goal

pub returns : goal.returns
returns g c =
    let m = g.C.Case.meaning c.args.case.now in
    let w = c.args.self.now in
    let u = c.put_options.new.self in
    let v = c.put_amounts.new.self in
    let x = c.put_rules.new.self in
    let y = c.put.new.self in
    let first = subst (λ (n : ℕ). Wrote w (options_field n) u) c.options.ensures c.put_options.ensures in
    wrote_then w u y (options_field (options_of m)) _ c.requires first
    (λ h. wrote_then u v y (amount_fields 0 (amounts_of m)) _ h c.put_amounts.ensures
    (λ k. wrote_then v x y (rule_fields (rules_of m)) (field 4 []) k c.put_rules.ensures (λ _. c.put.ensures)))
