-- `farthest::grown_ball` meets its contract. The invariant is the record `Growing`; each turn takes one position from the rest.
-- Assumes nothing.
use lib.Count.{ones}
use Rattle.farthest.proofs.BallLaws.{Growing}
use Rattle.farthest.proofs.grown_ball.Given as goal

abbrev pub invariant-loop-rest : goal.invariant-loop-rest
invariant-loop-rest l = Growing l.rows l.balls l.u l.ball l.rest

abbrev pub decreases-loop-rest : goal.decreases-loop-rest
decreases-loop-rest l = ones l.rest
