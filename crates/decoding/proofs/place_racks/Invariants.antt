-- `decoding::place_racks` meets its contract. The loop's invariant: what is left to place decides the table at the end. Assumes nothing.
use Rattle.order.proofs.Tables.{ToPlace}
use Rattle.decoding.proofs.place_racks.Given as goal

abbrev pub invariant-loop-i : goal.invariant-loop-i
invariant-loop-i l = ToPlace l.tail l.from l.m l.initial.racks l.racks l.i
