-- `decoding::mark_edges` meets its contract. The loop's invariant: what is left to mark decides the matrix at the end. Assumes nothing.
use Rattle.order.proofs.Tables.{ToMark}
use Rattle.decoding.proofs.mark_edges.Given as goal

abbrev pub invariant-loop-j : goal.invariant-loop-j
invariant-loop-j l = ToMark l.tail l.e l.initial.matrix l.matrix l.j
