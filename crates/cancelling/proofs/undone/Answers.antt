-- `cancelling::undone` meets its contract. Assumes nothing.
use Prim.Native.Nat.{ℕ, ◌-◌}
use mathlib.Core.Path.{◌≡◌, sym, ap, ◌∙◌}
use native.Mathlib.Omega.{arith}
use Rattle.cancelling.specs.Stack.{move_of}
use Rattle.cancelling.specs.Looking.{listing}
use Rattle.cancelling.proofs.LookingLaws.{move_is}
use Rattle.cancelling.proofs.undone.Goals as goal
use Rattle.cancelling.proofs.undone.Goals.{else-step-b-via-then-step-b+else-step-a, else-step-b-via-else-step-b}

pub returns-then-step-a : goal.returns-then-step-a
returns-then-step-a c = (
  omega (arith, c.if-at-eq0.false),
  rw (← c.if-step-b.true, ← c.if-step-a.true)
      (move_is c.args.moves.now.named c.args.moves.now.tail.now (c.args.at - 1) _ _ c.at-step.ensures),
)

pub returns : goal.returns
returns c h there turned =
    let same : c.args.at - 1 ≡ h = omega arith in
    let is = move_is c.args.moves.now.named c.args.moves.now.tail.now (c.args.at - 1) _ _ c.at-step.ensures in
    let both = sym is ∙ ap (λ (i : ℕ). move_of (listing c.args.moves.now i)) same ∙ turned in
    elim c.else-step-b.branch [
      | else-step-b-via-then-step-b+else-step-a w ↦ w.if-step-a.false (ap (λ (m : ℕ × ℕ). m.1) both)
      | else-step-b-via-else-step-b w ↦ w.if-step-b.false (ap (λ (m : ℕ × ℕ). m.0) both)
    ]
