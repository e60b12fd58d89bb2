-- `farthest::dearest` meets its contract. The invariant is the record `Rounds`; the moves stay below n, since a walk leads to what is
-- missed. Assumes nothing.
use native.Mathlib.Omega.{arith}
use Rattle.farthest.proofs.BallLaws.{rounds_begin, rounds_next}
use Rattle.farthest.proofs.dearest.Goals as goal

pub loop-farther-init : goal.loop-farther-init
loop-farther-init c = rounds_begin _ _ c.requires.0 _ c.alone-balls.ensures

pub loop-farther-preserved : goal.loop-farther-preserved
loop-farther-preserved c =
    let below = c.in-Some.ensures.0 in
    rounds_next _ _ c.requires.1 _ _ _ _ c.loop-farther.invariant _ _ c.in-Some.ensures.1 (omega arith) c.requires.2 _
    c.grown-balls.ensures
