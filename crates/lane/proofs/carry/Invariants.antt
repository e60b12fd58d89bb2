-- `lane::carry` meets its contract. The invariant: the record `Carrying`, and the journey so far, which avoids the position
-- beside the right end.
-- Assumes nothing.
use Prim.Native.Nat.{◌-◌, ◌*◌}
use mathlib.Core.Logic.{◌≢◌}
use Rattle.graph.specs.Rows.{row}
use Rattle.moving.specs.Journey.{JourneyIn}
use Rattle.lane.proofs.CarryLaws.{Carrying}
use Rattle.lane.proofs.carry.Given as goal

abbrev pub invariant-loop-i : goal.invariant-loop-i
invariant-loop-i l =
    Carrying l.n (row l.lane.order) l.end l.right l.beside l.q (row l.initial.state.racks) (row l.state.racks) l.i
    × JourneyIn (λ p. l.beside ≢ p) l.rows ((l.n - 2) * (l.i - l.q)) l.initial.state l.initial.log l.initial.tail l.state l.log l.tail
