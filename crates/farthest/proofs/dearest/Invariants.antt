-- `farthest::dearest` meets its contract. The invariant is the record `Rounds`; the moves stay below n, since a walk leads to what is
-- missed. Assumes nothing.
use Prim.Native.Nat.{◌-◌}
use Rattle.farthest.proofs.BallLaws.{Rounds}
use Rattle.farthest.proofs.dearest.Given as goal

abbrev pub invariant-loop-farther : goal.invariant-loop-farther
invariant-loop-farther l = Rounds l.n l.rows l.balls l.moves l.trip.start l.trip.goal

abbrev pub decreases-loop-farther : goal.decreases-loop-farther
decreases-loop-farther l = l.n - l.moves
