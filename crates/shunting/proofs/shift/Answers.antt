-- `shunting::shift` meets its contract. The invariant: the records `Shifting` and `Shifts`, room for the moves to come, and how many are
-- logged.
-- Assumes nothing.
use Prim.Native.Nat.{◌+◌, ◌-◌}
use mathlib.Core.Path.{◌≡◌, refl, ◌∙◌}
use native.Mathlib.Omega.{arith}
use Rattle.moving.proofs.JourneyLaws.{fits_less, fits_move}
use Rattle.shunting.proofs.ClearLaws.{shifting_begin, shifting_movable, shifting_step, shifting_end}
use Rattle.shunting.proofs.ClearLaws.{shifts_begin, shifts_step, shifts_end}
use Rattle.shunting.proofs.shift.Goals as goal

pub loop-i-init : goal.loop-i-init
loop-i-init c = (
  refl,
  shifting_begin _ _ c.requires.simple _ c.requires.shiftable,
  shifts_begin _ _ _ _ _ c.requires.shiftable.some,
  c.requires.fits,
  refl,
)

pub step-requires-clause-movable : goal.step-requires-clause-movable
step-requires-clause-movable c =
    shifting_movable _ _ c.requires.simple _ _ c.loop-i.i c.loop-i-test.true c.requires.shiftable c.loop-i.invariant.1

pub step-requires-clause-fits : goal.step-requires-clause-fits
step-requires-clause-fits c = fits_less 1 (omega arith) c.loop-i.invariant.3

pub loop-i-preserved : goal.loop-i-preserved
loop-i-preserved c =
    let can = shifting_movable _ _ c.requires.simple _ _ c.loop-i.i c.loop-i-test.true c.requires.shiftable c.loop-i.invariant.1 in
    let up : c.loop-i.i ≡ c.loop-i.i - 1 + 1 = omega arith in
    let noted = c.step.ensures.logged_value in (
      c.step.auto.tail ∙ c.loop-i.invariant.0,
      shifting_step _ _ c.requires.simple _ _ _ c.loop-i.i (c.loop-i.i - 1) up c.loop-i.invariant.1 c.step.ensures.passed,
      shifts_step _ _ _ _ _ c.loop-i.i (c.loop-i.i - 1) _ _ _ _ _ _ up c.loop-i.invariant.1.place c.loop-i.invariant.2
          can c.step.ensures.passed c.step.ensures.journey_on,
      fits_move _ _ (c.loop-i.i - 1) can.leaves (fits_less (1 + (c.loop-i.i - 1)) (omega arith) c.loop-i.invariant.3)
          c.step.ensures.journey_on,
      omega arith,
    )

pub returns-clause-journey_along : goal.returns-clause-journey_along
returns-clause-journey_along c = shifts_end _ _ _ _ _ c.loop-i.i _ _ _ (omega arith) c.loop-i.invariant.2

pub returns-clause-shifted : goal.returns-clause-shifted
returns-clause-shifted c = shifting_end _ _ c.requires.simple _ _ c.loop-i.i (omega arith) c.loop-i.invariant.1
