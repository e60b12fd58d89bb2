-- `stepping::note_origins` meets its contract. The loop's invariant: the moves that are left decide the row at the end. Assumes nothing.
use Rattle.stepping.proofs.Turning.{Noting}
use Rattle.stepping.proofs.note_origins.Given as goal

abbrev pub invariant-loop-x : goal.invariant-loop-x
invariant-loop-x l = Noting l.step l.initial.origins l.origins l.x-index
