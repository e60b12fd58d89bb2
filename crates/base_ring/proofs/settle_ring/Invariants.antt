-- `base_ring::settle_ring` meets its contract. The invariant is the record `Settling`.
-- Assumes nothing.
use Rattle.graph.specs.Rows.{row}
use Rattle.base_ring.specs.Moves.{exchange_moves}
use Rattle.base_ring.proofs.SettleLaws.{Settling}
use Rattle.base_ring.proofs.settle_ring.Given as goal

abbrev pub invariant-loop-i : goal.invariant-loop-i
invariant-loop-i l =
    Settling l.rows l.circle (row l.goal) (exchange_moves l.circle.size) l.initial.state l.initial.tail l.state l.log l.tail l.i
