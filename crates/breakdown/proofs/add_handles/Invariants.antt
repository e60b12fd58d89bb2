-- `breakdown::add_handles` meets its contract. The invariant is the record `Building`; what is left of 64 positions falls with each handle.
-- On a bi-connected floor there is a handle to choose (`ExistLaws`).
-- Assumes nothing.
use Prim.Native.Nat.{◌-◌, ◌<◌}
use Rattle.graph.specs.Rows.{row, Edge}
use Rattle.breakdown.specs.Building.{Building}
use Rattle.breakdown.proofs.add_handles.Given as goal

abbrev pub invariant-loop-b : goal.invariant-loop-b
invariant-loop-b l =
    Building l.n (Edge l.rows) l.b.ring l.b.handles l.b.order l.b.start l.b.left l.b.right l.settled × (l.b.ring < l.n)

abbrev pub decreases-loop-b : goal.decreases-loop-b
decreases-loop-b l = 64 - row l.b.start l.b.handles
