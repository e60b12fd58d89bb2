-- `parity::two_colours` meets its contract.
-- Assumes nothing.
use lib.Count.{ones}
use Rattle.parity.proofs.PaintingLaws.{Painting}
use Rattle.parity.proofs.two_colours.Given as goal

abbrev pub invariant-loop-both : goal.invariant-loop-both
invariant-loop-both l = Painting l.rows l.n l.light l.dark l.rest

abbrev pub decreases-loop-both : goal.decreases-loop-both
decreases-loop-both l = ones l.rest
