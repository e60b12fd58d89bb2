-- `handles::is_settled` meets its contract.
-- Assumes nothing.
use Rattle.graph.specs.Rows.{row}
use Rattle.lane.specs.Lane.{Agreed}
use Rattle.handles.proofs.is_settled.Given as goal

abbrev pub invariant-loop-i : goal.invariant-loop-i
invariant-loop-i l = Agreed (row l.order) (row l.goal) (row l.racks) l.s l.i
