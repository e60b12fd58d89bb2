-- `circling::drive` meets its contract. The invariant is the record `Driving`; each move leaves less to go. Assumes nothing.
use Rattle.graph.specs.Rows.{row}
use Rattle.circling.specs.Lands.{total}
use Rattle.circling.proofs.DriveLaws.{Driving}
use Rattle.circling.proofs.drive.Given as goal

abbrev pub invariant-loop-i : goal.invariant-loop-i
invariant-loop-i l =
    Driving l.n l.initial.state.real (row l.circle) l.initial.need l.initial.state l.initial.tail l.need l.state l.tail

abbrev pub decreases-loop-i : goal.decreases-loop-i
decreases-loop-i l = total l.need
