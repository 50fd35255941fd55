use Rattle.std.proofs.Common.{◌≡◌, ℕ, ◌<◌, ◌≤◌, rules, false, length, get_or, take, Some, None, Option, MatchOption, Bor, sym, ap, ◌∙◌, arith, le_refl}
use borrow.Author.Tests.{tests}
use Rattle.std.specs.Prelude.{unwrap_or}
use Rattle.std.specs.Option.{option_map}
use Rattle.std.proofs.lemmas.List.{get_or-take, length-take-le}
use Rattle.literals.specs.declared.LiteralSet.{LiteralSet}
use Rattle.literals.specs.Members.{member}
use Rattle.literals.proofs.Options.{at_value}
use Rattle.tables.specs.declared.learned.Row.{Row}
use Rattle.tables.specs.declared.learned.Learned.{Learned}
use Rattle.tables.specs.Rows.{Noted, no_row, nothing_noted}
use Rattle.tables.specs.Learned.{rows_of}
use Rattle.tables.proofs.Rows.{row_at, row_past}
use Rattle.tables.proofs.learned.Learned.row.Goals as goal

full : (s : Learned) → length (take s.len s.rows) ≡ s.len
full s = length-take-le s.len s.rows (omega (arith, s.few, s.full))

read : (s : Learned) (j : ℕ) (o : Option (Bor Row)) (r none : LiteralSet) → ((k : ℕ) → member none k ≡ false)
    → MatchOption o (length (take s.len s.rows) ≤ j) (λ _. j < length (take s.len s.rows)) → unwrap_or (option_map (λ x. x.now) o) no_row ≡ get_or (take s.len s.rows) j no_row
    → MatchOption o (r ≡ none) (λ x. r ≡ x.now.literals) → (x : ℕ) → member r x ≡ (get_or (rows_of s) j nothing_noted).literals x
read s j None r none e past at is = λ x. ap (λ (a : LiteralSet). member a x) is ∙ e x ∙ ap (λ (a : Noted). a.literals x) (sym (row_past s j (omega (arith, full s))))
read s j (Some y) r none e inside at is = λ x.
    ap (λ (a : LiteralSet). member a x) is
    ∙ ap (λ (a : Row). member a.literals x) (at ∙ get_or-take s.len s.rows j no_row (omega (arith, full s)))
    ∙ ap (λ (a : Noted). a.literals x) (sym (row_at s j (omega (arith, full s))))

pub returns : goal.returns
returns c =
    let s = c.args.self.now in
    let g = c.get.ensures.lookup in
    read s c.args.j c.get.result c.map_or.result c.empty.result c.empty.ensures (at_value _ (λ _. c.args.j < length (take s.len s.rows)) c.get.result (λ x k. k.0) g.3) (g.4 (le_refl c.args.j) no_row)
    (at_value _ (λ x. c.map_or.result ≡ x.now.literals) c.get.result (λ x k. search (rules, tests)) c.map_or.ensures)
