-- `base_ring::swap` meets its contract.
-- Assumes nothing.
use Rattle.moving.proofs.JourneyLaws.{journey_append, fits_less}
use native.Mathlib.Omega.{arith}
use Rattle.base_ring.proofs.MoveLaws.{swap-first, swap-second, swap_third, swap-done, fits_by}
use Rattle.base_ring.proofs.swap.Goals as goal

pub pass_by-there-requires : goal.pass_by-there-requires
pass_by-there-requires c = record {
  passable_by = swap-second c.requires.swappable c.pass_by-away.ensures.passed;
  fits = fits_less 2 (omega arith) (fits_by 4 (swap-first c.requires.swappable) c.requires.fits c.pass_by-away.ensures.journey_on);
}

pub pass_by-requires : goal.pass_by-requires
pass_by-requires c = record {
  passable_by = swap_third c.requires.swappable c.pass_by-away.ensures.passed c.pass_by-there.ensures.passed;
  fits = fits_by 2 (swap-second c.requires.swappable c.pass_by-away.ensures.passed)
      (fits_by 4 (swap-first c.requires.swappable) c.requires.fits c.pass_by-away.ensures.journey_on)
      c.pass_by-there.ensures.journey_on;
}

pub returns : goal.returns
returns c = record {
  journey_on = λ g j.
      let sy = j.symmetric in
      journey_append
      (journey_append
      (c.pass_by-away.ensures.journey_on g (record { there = sy _ _ j.first; on = j.waits }))
      (c.pass_by-there.ensures.journey_on g (record { there = sy _ _ j.second; on = j.first })))
      (c.pass_by.ensures.journey_on g (record { there = sy _ _ j.waits; on = j.second }));
  swapped = swap-done c.requires.swappable c.pass_by-away.ensures.passed c.pass_by-there.ensures.passed c.pass_by.ensures.passed;
}
