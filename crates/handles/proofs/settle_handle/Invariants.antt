-- `handles::settle_handle` meets its contract. The invariant: the record `Settling`.
-- Assumes nothing.
use Rattle.graph.specs.Rows.{row}
use Rattle.handles.proofs.SettleLaws.{Settling}
use Rattle.handles.proofs.settle_handle.Given as goal

abbrev pub invariant-loop-k : goal.invariant-loop-k
invariant-loop-k l =
    Settling l.rows l.lane.positions (row l.lane.order) (row l.goal) l.s l.e l.k l.initial.state l.initial.log
    l.initial.tail l.state l.log l.tail
