-- Each turn reads a field and notes it; what the calls ensure of both is one turn of scanning the file.
use Rattle.std.proofs.Common.{◌≡◌, ℕ, suc, pred, ◌-◌, List, length, Ok, Err, Option, sym, ap, ◌∙◌, subst, ap₂, arith, rules, tests}
use Rattle.std.proofs.lemmas.Result.{err_from_is_err_and}
use Rattle.casefile.specs.declared.field.Phase.{Phase}
use Rattle.casefile.specs.Format.{Octets}
use Rattle.casefile.specs.declared.field.Field.{Field}
use Rattle.casefile.specs.Fields.{item, given, next, gave, gave_nothing}
use Rattle.casefile.specs.Files.{blank, refused}
use Rattle.casefile.specs.Inner.Scanning.{scan_from, judged}
use Rattle.casefile.specs.Inner.Indexes.{Judged, Reach, Stands}
use Rattle.casefile.specs.Facts.Whole.{KeptBy, kept_blank, kept_judged, fitting}
use Rattle.casefile.specs.Facts.Reads.{Reads, reads}
use Rattle.casefile.specs.Facts.Same.{same}
use Rattle.casefile.proofs.Turns.{refuse, erred, ends, goes_on, moved, stands, reaches, ReachBy, noted_ok, noted_err, accepted_shows}
use Rattle.casefile.proofs.open.judge.Goals as goal
use Rattle.casefile.proofs.open.judge.Goals.{In_default, In-Some}

pub loop-field-init : goal.loop-field-init
loop-field-init c =
    let e = c.new-reader.ensures in
    let b = c.args.bytes.now in (
      e.bytes,
      omega arith,
      (
        blank,
        suc (length b),
        kept_blank,
        c.new-index.ensures.blank b,
        subst (λ (p : Phase). Reach p blank c.new-reader.result.at) (sym e.phase) e.place,
        omega arith,
        ap₂ (λ (p : Phase) (i : ℕ). scan_from (suc (length b)) blank p b i) e.phase e.place ∙ same b,
      ),
    )

pub returns-in_err-field : goal.returns-in_err-field
returns-in_err-field c =
    let i = c.loop-field.invariant in
    let r = c.loop-field.reader in
    let p = err_from_is_err_and c.from_residual.result c.from_residual.ensures.1 in
    let b = c.in_err-field.field-0.0 in
    let w = c.next.new.self in
    subst (Judged c.args.bytes.now) (sym (p.1 ∙ ap Err p.2))
    (sym i.2.6 ∙ refuse i.2.1 (length c.args.bytes.now - r.at) i.2.0 r.phase r.bytes.now c.args.bytes.now r.at i.0 i.2.5
    b.fault b.place w.phase w.at c.in_err-field.ensures.gave)

gave_none : (c : In_default) → gave_nothing c.next.new.self.phase c.next.new.self.at ≡ next c.loop-field.reader.phase c.loop-field.reader.bytes.now c.loop-field.reader.at
gave_none c =
    ap (λ (z : Option Field). given (Ok z) c.next.new.self.phase c.next.new.self.at) (sym c.in_default.is) ∙ c.in_ok-field.ensures.gave

pub returns-in_default : goal.returns-in_default
returns-in_default c =
    let i = c.loop-field.invariant in
    let r = c.loop-field.reader in
    let b = c.args.bytes.now in
    let w = c.next.new.self in
    accepted_shows b c.loop-field.index i.2.0
    (sym i.2.6 ∙ ends i.2.1 (length b - r.at) i.2.0 r.phase r.bytes.now b r.at i.0 i.2.5 w.phase w.at (gave_none c))
    i.2.3.0

-- the field that was given, and how it stands in the file
gave_field : (c : In-Some) → gave (item c.in-Some.field) c.next.new.self.phase c.next.new.self.at ≡ next c.loop-field.reader.phase c.loop-field.reader.bytes.now c.loop-field.reader.at
gave_field c =
    ap (λ (z : Option Field). given (Ok z) c.next.new.self.phase c.next.new.self.at) (sym c.in-Some.is) ∙ c.in_ok-field.ensures.gave

reads_field : (c : In-Some) → Reads c.loop-field.reader.phase c.args.bytes.now c.loop-field.reader.at (item c.in-Some.field) c.next.new.self.phase c.next.new.self.at
reads_field c =
    let r = c.loop-field.reader in
    let w = c.next.new.self in
    reads r.phase c.args.bytes.now r.at (item c.in-Some.field) w.phase w.at (gave_field c ∙ ap (λ (z : List ℕ). next r.phase z r.at) c.loop-field.invariant.0)

stands_field : (c : In-Some) → Stands c.args.bytes.now c.loop-field.reader.at (item c.in-Some.field)
stands_field c =
    let r = c.loop-field.reader in
    let w = c.next.new.self in
    stands r.phase c.args.bytes.now r.at (item c.in-Some.field) w.phase w.at (reads_field c)

pub returns-in_err-map_err : goal.returns-in_err-map_err
returns-in_err-map_err c =
    let d = (goal.at.returns-in_err-map_err c).In-Some in
    let i = c.loop-field.invariant in
    let r = c.loop-field.reader in
    let w = c.next.new.self in
    let it = item c.in-Some.field in
    let b = c.args.bytes.now in
    let s = i.2.0 in
    let at_place = subst (λ (k : ℕ). Stands b k it) (sym c.place-place.ensures) (stands_field d) in
    let f = c.in_err-map_err.field-0.0 in
    let n = noted_err b (judged s it) c.note.result c.note.new.self f c.place-place.result c.in_err-map_err.ensures.cases (λ e h. search (rules, tests)) (c.note.ensures.noted b s i.2.3 at_place) in
    let p = err_from_is_err_and c.from_residual-in_err-map_err.result c.from_residual-in_err-map_err.ensures.1 in
    subst (Judged b) (sym (p.1 ∙ ap Err p.2))
    (sym i.2.6 ∙ erred i.2.1 (length b - r.at) s r.phase r.bytes.now b r.at i.0 i.2.5
    it w.phase w.at (gave_field d) f.fault n.0
    ∙ ap (refused f.fault) (sym (n.1 ∙ c.place-place.ensures)))

pub loop-field-smaller : goal.loop-field-smaller
loop-field-smaller c =
    let r = c.loop-field.reader in
    let w = c.next.new.self in
    let m = moved r.phase c.args.bytes.now r.at (item c.in-Some.field) w.phase w.at (reads_field (goal.at.loop-field-smaller c).In-Some) in
    omega (arith, m.0, m.1)

pub loop-field-preserved : goal.loop-field-preserved
loop-field-preserved c =
    let d = (goal.at.loop-field-preserved c).In-Some in
    let i = c.loop-field.invariant in
    let r = c.loop-field.reader in
    let w = c.next.new.self in
    let b = c.args.bytes.now in
    let s = i.2.0 in
    let it = item c.in-Some.field in
    let rd = reads_field d in
    let m = moved r.phase b r.at it w.phase w.at rd in
    let at_place = subst (λ (k : ℕ). Stands b k it) (sym c.place-place.ensures) (stands_field d) in
    let t = noted_ok b (judged s it) c.note.result c.note.new.self c.in_ok-map_err.ensures.variant (c.note.ensures.noted b s i.2.3 at_place) in
    let o : Octets b = λ k _. omega (arith, c.type_inv.bytes k) in (
      c.in_ok-field.ensures.bytes ∙ i.0,
      m.1,
      (
        t.0,
        pred i.2.1,
        subst KeptBy t.1 (kept_judged s it i.2.2 (fitting r.phase b r.at it w.phase w.at o rd)),
        t.2,
        subst (ReachBy w.phase w.at) t.1 (reaches r.phase b r.at it w.phase w.at s rd i.2.4),
        omega (arith, m.0, m.1, i.2.5),
        goes_on i.2.1 (length b - r.at) s r.phase r.bytes.now b r.at i.0 i.2.5 it w.phase w.at (gave_field d) t.0 t.1 ∙ i.2.6,
      ),
    )
