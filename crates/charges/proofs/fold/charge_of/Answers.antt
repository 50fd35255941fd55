use Rattle.std.proofs.Common.{◌≡◌, ℕ, rules, ◌∙◌}
use Rattle.std.specs.List.{fold}
use Rattle.std.proofs.lemmas.Iterator.{YieldsList-from_slice}
use Rattle.std.proofs.lemmas.Iterator.Consumers.{fold_from_yields_List}
use Rattle.charges.specs.Charges.{contents, price_of, total}
use Rattle.charges.specs.Generic.{kind_of}
use Rattle.charges.proofs.Contents.{contents_amounts}
use Rattle.charges.proofs.Sums.{zero_first}
use Rattle.charges.proofs.Totals.{total_fold, total_members, order_free}
use Rattle.charges.proofs.fold.charge_of.Goals as goal

pub returns : goal.returns
unfolding price_of
returns g c =
    let K = kind_of g.K.Charge in
    let laws = g.met.K.Charge.laws in
    let s = contents (g.C.Case.meaning c.args.case.now) in
    let ls = c.args.literals.now in
    let ran : c.fold.result ≡ fold (λ (a : K.charges) (l : ℕ). K.sum a (price_of K s l)) c.zero.result ls =
    fold_from_yields_List _ (λ (a : K.charges) (l : ℕ). K.sum a (price_of K s l)) c.zero.result c.fold.result c.fold.ensures.ran (YieldsList-from_slice ls cc) (λ a x b q k. simp (contents_amounts (g.C.Case.meaning c.args.case.now)) (search rules)) in
    let all : c.fold.result ≡ total K s ls = ran ∙ rw c.zero.ensures (total_fold K laws s K.zero ls ∙ zero_first K laws (total K s ls)) in
    record {
      summed = all;
      charged = λ once. all ∙ total_members K laws s ls once;
      orderless = order_free K laws s;
    }
