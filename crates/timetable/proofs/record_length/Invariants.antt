-- `timetable::record_length` meets its contract. The loop's invariant: what is left of the timetable begins at `end`. Assumes nothing.
use Prim.Native.Nat.{◌≤◌}
use lib.ListN.{length}
use Rattle.timetable.proofs.Passing.{Passing}
use Rattle.timetable.proofs.record_length.Given as goal

abbrev pub invariant-loop : goal.invariant-loop
invariant-loop l = (l.end ≤ length l.bytes) × Passing l.bytes l.count l.counter l.end
