-- `graph::spread` meets its contract. The invariant is the record `Spreading`; each level takes one of 64 places.
-- Assumes nothing.
use Prim.Native.Nat.{◌-◌}
use Rattle.graph.proofs.LevelLaws.{State}
use Rattle.graph.proofs.spread.Given as goal

abbrev pub invariant-loop-fresh : goal.invariant-loop-fresh
invariant-loop-fresh l = State l.rows l.free l.targets l.goal l.depth l.levels l.fresh l.left

abbrev pub decreases-loop-fresh : goal.decreases-loop-fresh
decreases-loop-fresh l = 64 - l.depth
