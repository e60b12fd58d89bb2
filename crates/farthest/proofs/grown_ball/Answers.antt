-- `farthest::grown_ball` meets its contract. The invariant is the record `Growing`; each turn takes one position from the rest.
-- Assumes nothing.
use Rattle.sets.proofs.CountLaws.{ones-without}
use Rattle.farthest.proofs.BallLaws.{growing_next, growing_end}
use Rattle.farthest.proofs.grown_ball.Goals as goal

pub loop-rest-smaller : goal.loop-rest-smaller
loop-rest-smaller c = ones-without _ _ _ c.lowest-w.ensures.has c.without-rest.ensures

pub loop-rest-preserved : goal.loop-rest-preserved
loop-rest-preserved c =
    growing_next _ _ _ _ _ _ _ c.lowest-w.ensures.has c.without-rest.ensures c.loop-rest.invariant

pub returns : goal.returns
returns c = growing_end _ _ _ _ _ c.loop-rest-test.false c.loop-rest.invariant
