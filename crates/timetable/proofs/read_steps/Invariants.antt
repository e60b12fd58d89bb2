-- `timetable::read_steps` meets its contract. The loop's invariant: what is left to judge decides, given the moves and the pads so far. A
-- step is at least as long as it has moves, so the moves are at most the bytes. Assumes nothing.
use Prim.Native.Nat.{◌≤◌}
use lib.ListN.{length}
use Rattle.timetable.proofs.Reading.{Left}
use Rattle.timetable.proofs.read_steps.Given as goal

abbrev pub invariant-loop : goal.invariant-loop
invariant-loop l =
    (l.moves ≤ l.at) × (l.at ≤ length l.timetable) × Left l.timetable l.count l.at l.moves l.pad_seen l.counter
