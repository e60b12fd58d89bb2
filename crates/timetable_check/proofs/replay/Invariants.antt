-- `timetable_check::replay` meets its contract. The loop's invariant: what is left to replay decides. Assumes nothing.
use Rattle.timetable_check.proofs.Turns.{StepsLeft}
use Rattle.timetable_check.proofs.replay.Given as goal

abbrev pub invariant-loop-i : goal.invariant-loop-i
invariant-loop-i l = StepsLeft l.timetable l.matrix l.initial.racks l.racks l.i l.at
