-- `text::put_steps` meets its contract. The loop's invariant: i steps are passed, and the lines of those after them are left to write.
-- Assumes nothing.
use Prim.Native.Nat.{◌+◌}
use lib.ListN.{drop}
use Rattle.timetable.specs.Timetable.{steps_of}
use Rattle.timetable.proofs.ReadingLaws.{Stands}
use Rattle.text.specs.Text.{step_lines}
use Rattle.field.proofs.WritingLaws.{Left}
use Rattle.text.proofs.put_steps.Given as goal

abbrev pub invariant-loop-i : goal.invariant-loop-i
invariant-loop-i l =
    Stands l.timetable l.i l.begin
    × Left l.initial.out l.at (step_lines 1 (steps_of l.timetable)) l.out l.next (step_lines (l.i + 1) (drop l.i (steps_of l.timetable)))
