-- `cancelling::touching` meets its contract. Assumes nothing.
use mathlib.Core.Logic.{inl, inr, ⊎_elim}
use Rattle.cancelling.specs.Looking.{listing}
use Rattle.cancelling.proofs.LookingLaws.{move_is, never, touching_is}
use Rattle.cancelling.proofs.touching.Goals as goal

pub returns-then-has : goal.returns-then-has
returns-then-has c =
    let is = touching_is (listing c.args.moves.now) c.args.marks.now c.args.ends c.args.i _ _
    (move_is _ _ _ _ _ c.at-step.ensures) in
    (λ h. is.1 (c.has.ensures.0 c.if-not-has.false, inl (c.has-2.ensures.0 h)), λ t. c.if-has.true)

pub returns-else-has : goal.returns-else-has
returns-else-has c =
    let is = touching_is (listing c.args.moves.now) c.args.marks.now c.args.ends c.args.i _ _
    (move_is _ _ _ _ _ c.at-step.ensures) in (
      λ h. is.1 (c.has.ensures.0 c.if-not-has.false, inr (c.has-else-has.ensures.0 h)),
      λ t. ⊎_elim (λ h. never _ c.if-has.false (c.has-2.ensures.1 h)) c.has-else-has.ensures.1 (is.0 t).1,
    )
