-- `trains::put_down` meets its contract. The loop's invariant: what is left to put down decides the table at the end. Assumes nothing.
use Rattle.chains.specs.StepOn.{moves_of, put_down}
use Rattle.chains.proofs.Moves.{Left, moves_from}
use Rattle.trains.proofs.put_down.Given as goal

abbrev pub invariant-loop-x : goal.invariant-loop-x
invariant-loop-x l = Left (put_down l.before) (moves_from l.step) (moves_of l.step) l.initial.racks l.racks l.x-index
