-- `turning::turn` meets its contract. The loop's invariant: what stood i places after the vacancy and further on has been passed on.
-- Assumes nothing.
use Rattle.graph.specs.Rows.{row}
use Rattle.turning.proofs.TurnLaws.{Underway}
use Rattle.turning.proofs.turn.Given as goal

abbrev pub invariant-loop-i : goal.invariant-loop-i
invariant-loop-i l =
    Underway (row l.cycle) l.z l.size l.i l.initial.state l.initial.log l.initial.tail l.state l.log l.tail
