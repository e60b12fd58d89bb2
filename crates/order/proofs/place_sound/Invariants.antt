-- `order::place_sound` meets its contract. The loop's invariant: what is left to judge decides, and what is left to place decides the
-- table at
-- the end. Assumes nothing.
use lib.ListN.{replicate}
use Rattle.order.proofs.Places.{Left}
use Rattle.order.proofs.Tables.{ToPlace}
use Rattle.order.proofs.place_sound.Given as goal

abbrev pub invariant-loop-i : goal.invariant-loop-i
invariant-loop-i l = Left l.tail l.n l.from l.m l.table l.i × ToPlace l.tail l.from l.m (replicate 64 0) l.table l.i
