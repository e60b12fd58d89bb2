-- `turning::undo` meets its contract. The invariant is the record `Taking`.
-- Assumes nothing.
use Rattle.turning.proofs.UndoLaws.{Taking}
use Rattle.turning.proofs.undo.Given as goal

abbrev pub invariant-loop-i : goal.invariant-loop-i
invariant-loop-i l = Taking l.log l.from l.to l.initial.state l.initial.tail l.state l.tail l.i
