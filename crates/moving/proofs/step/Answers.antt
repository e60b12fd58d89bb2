-- `moving::step` meets its contract.
-- Assumes nothing.
use mathlib.Core.Path.{refl}
use native.Mathlib.Omega.{arith}
use Rattle.moving.proofs.JourneyLaws.{moved_journey}
use Rattle.moving.proofs.step.Goals as goal

pub returns-clause-journey_on : goal.returns-clause-journey_on
returns-clause-journey_on c =
    λ g e.
    moved_journey c.requires.fits.racks c.requires.movable c.move_rack.ensures.moved g e c.args.log.now _ _ (omega arith)
    c.requires.fits refl
