-- Two shapes are equal if all their parts are.
use Rattle.std.proofs.Common.{◌≡◌, ℕ, List, ap, ◌∙◌}
use mathlib.Core.Option as core
use Rattle.cases.specs.Literals.{Literals}
use Rattle.calculus.specs.Trails.{Trail}
use Rattle.steps.specs.Shapes.{Shape}

pub same_shape : {a b : Shape} → a.trail ≡ b.trail → a.conflict ≡ b.conflict → a.choice ≡ b.choice → a.learned ≡ b.learned → a.conflicts ≡ b.conflicts → a.steps ≡ b.steps → a ≡ b
same_shape {a} {b} q r h l k s =
    ap (λ (x : Trail). record { trail = x; conflict = a.conflict; choice = a.choice; learned = a.learned; conflicts = a.conflicts; steps = a.steps }) q
    ∙ ap (λ (x : core.Option Literals). record { trail = b.trail; conflict = x; choice = a.choice; learned = a.learned; conflicts = a.conflicts; steps = a.steps }) r
    ∙ ap (λ (x : Literals). record { trail = b.trail; conflict = b.conflict; choice = x; learned = a.learned; conflicts = a.conflicts; steps = a.steps }) h
    ∙ ap (λ (x : List Literals). record { trail = b.trail; conflict = b.conflict; choice = b.choice; learned = x; conflicts = a.conflicts; steps = a.steps }) l
    ∙ ap (λ (x : ℕ). record { trail = b.trail; conflict = b.conflict; choice = b.choice; learned = b.learned; conflicts = x; steps = a.steps }) k
    ∙ ap (λ (x : ℕ). record { trail = b.trail; conflict = b.conflict; choice = b.choice; learned = b.learned; conflicts = b.conflicts; steps = x }) s
