-- `shunting::shift` meets its contract. The invariant: the records `Shifting` and `Shifts`, room for the moves to come, and how many are
-- logged.
-- Assumes nothing.
use Prim.Native.Nat.{◌+◌, ◌-◌}
use mathlib.Core.Path.{◌≡◌}
use lib.ListN.{length}
use Rattle.graph.specs.Rows.{row}
use Rattle.moving.specs.Journey.{Fits}
use Rattle.shunting.proofs.ClearLaws.{Shifting}
use Rattle.shunting.proofs.ClearLaws.{Shifts}
use Rattle.shunting.proofs.shift.Given as goal

abbrev pub invariant-loop-i : goal.invariant-loop-i
invariant-loop-i l =
    (length l.tail ≡ length l.initial.tail)
    × Shifting (row l.at) l.size (row l.initial.state.racks) (row l.state.racks) l.i
    × Shifts (row l.at) l.size l.initial.state l.initial.log l.initial.tail l.i l.state l.log l.tail
    × Fits l.state l.log l.tail l.i
    × (l.state.logged + l.i ≡ l.initial.state.logged + (l.size - 1))
