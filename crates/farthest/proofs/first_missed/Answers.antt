-- `farthest::first_missed` meets its contract. The loop's invariant: the balls of the positions before it are full.
-- Assumes nothing.
use Rattle.farthest.proofs.BallLaws.{full_next}
use Rattle.farthest.proofs.first_missed.Goals as goal

pub loop-start-preserved : goal.loop-start-preserved
loop-start-preserved c =
    full_next _ c.args.balls.now _ c.below-all.ensures _ _ c.minus-missed.ensures c.loop-start.invariant c.if-missed-ne0.false
