-- `scheduling::write_step` meets its contract. The loop's invariant: the moves of the entries passed are packed behind the place of the
-- count, and `rest` has the positions that the others leave. Assumes nothing.
use lib.Count.{ones}
use Rattle.scheduling.proofs.Writing.{Rest}
use Rattle.scheduling.proofs.write_step.Given as goal

abbrev pub invariant-loop-rest : goal.invariant-loop-rest
invariant-loop-rest l = Rest l.window l.row l.initial.buffer l.at l.rest l.count l.buffer

abbrev pub decreases-loop-rest : goal.decreases-loop-rest
decreases-loop-rest l = ones l.rest
