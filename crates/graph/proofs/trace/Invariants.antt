-- `graph::trace` meets its contract. The invariant is the record `Tracing`.
-- Assumes nothing.
use Rattle.graph.specs.Rows.{Edge}
use Rattle.graph.proofs.SearchLaws.{Tracing}
use Rattle.graph.proofs.trace.Given as goal

abbrev pub invariant-loop-k : goal.invariant-loop-k
invariant-loop-k l = Tracing (Edge l.rows) l.levels l.depth l.from l.path l.v l.k
