-- `decoding::join_edges` meets its contract. The loop's invariant: what is left to judge decides, and what is left to join decides the rows
-- at the end.
-- Assumes nothing.
use lib.ListN.{replicate}
use Rattle.order.proofs.Edges.{Left}
use Rattle.order.proofs.Tables.{ToJoin}
use Rattle.decoding.proofs.join_edges.Given as goal

abbrev pub invariant-loop-j : goal.invariant-loop-j
invariant-loop-j l = Left l.tail l.n l.e l.last l.j × ToJoin l.tail l.e (replicate 64 0) l.rows l.j
