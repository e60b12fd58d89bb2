-- `scheduling::write_window` meets its contract. The loop's invariant: the steps of the rows passed are written. Assumes nothing.
use Rattle.scheduling.proofs.Windowing.{WroteRows}
use Rattle.scheduling.proofs.write_window.Given as goal

abbrev pub invariant-loop-row : goal.invariant-loop-row
invariant-loop-row l = WroteRows l.window l.initial.buffer l.n l.at l.buffer l.next l.row
