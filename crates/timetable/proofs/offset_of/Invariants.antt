-- `timetable::offset_of` meets its contract. The loop's invariant: what is left begins at `at`, with the step of the counter. Assumes
-- nothing.
use Prim.Native.Nat.{◌-◌}
use Rattle.timetable.proofs.ReadingLaws.{Stands}
use Rattle.timetable.proofs.offset_of.Given as goal

abbrev pub invariant-loop : goal.invariant-loop
invariant-loop l = Stands l.timetable (l.counter - 1) l.at
