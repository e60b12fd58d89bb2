-- `order::edges_sound` meets its contract. The loop's invariant: what is left to judge, given the last edge's place,
-- decides. Assumes nothing.
use Rattle.order.proofs.Edges.{Left}
use Rattle.order.proofs.edges_sound.Given as goal

abbrev pub invariant-loop-j : goal.invariant-loop-j
invariant-loop-j l = Left l.tail l.n l.e l.last l.j
