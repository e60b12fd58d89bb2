-- `handles::settle_handles` meets its contract. The invariant: the record `Handling`.
-- Assumes nothing.
use Rattle.graph.specs.Rows.{row}
use Rattle.handles.proofs.SettleLaws.{Handling}
use Rattle.handles.proofs.settle_handles.Given as goal

abbrev pub invariant-loop-i : goal.invariant-loop-i
invariant-loop-i l =
    Handling l.rows l.n (row l.breakdown.order) (row l.breakdown.start) (row l.goal) l.i l.initial.state
    l.initial.tail l.state l.log l.tail
