-- `trains::take_up` meets its contract. The loop's invariant: what is left to take up decides the table at the end. Assumes nothing.
use Rattle.chains.specs.StepOn.{moves_of, taken_up}
use Rattle.chains.proofs.Moves.{Left, moves_from}
use Rattle.trains.proofs.take_up.Given as goal

abbrev pub invariant-loop-x : goal.invariant-loop-x
invariant-loop-x l = Left taken_up (moves_from l.step) (moves_of l.step) l.initial.racks l.racks l.x-index
