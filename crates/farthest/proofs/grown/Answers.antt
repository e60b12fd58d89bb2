-- `farthest::grown` meets its contract. The loop's invariant: the ball of each position before u is one move larger.
-- Assumes nothing.
use native.Mathlib.Omega.{arith}
use Rattle.farthest.proofs.BallLaws.{filled_none, filled_next}
use Rattle.farthest.proofs.grown.Goals as goal

pub loop-u-init : goal.loop-u-init
loop-u-init c = filled_none

pub loop-u-preserved : goal.loop-u-preserved
loop-u-preserved c = filled_next _ _ _ (omega arith) c.grown_ball.ensures c.loop-u.invariant

pub returns : goal.returns
returns c =
    record { long = c.loop-u.invariant.long; is = λ a b h. c.loop-u.invariant.entry a (omega arith) b }
