-- `circling::find` meets its contract. The invariant: no place before i is ready. Assumes nothing.
use Rattle.graph.specs.Rows.{row}
use Rattle.circling.proofs.DriveLaws.{Tried}
use Rattle.circling.proofs.find.Given as goal

abbrev pub invariant-loop-i : goal.invariant-loop-i
invariant-loop-i l = Tried l.n (row l.circle) (row l.need) (row l.racks) l.i
