-- `ring::circle` meets its contract. The invariant is the record `Following`. Assumes nothing.
use Rattle.graph.specs.Connected.{Ring}
use Rattle.graph.specs.EdgeCount.{edge_count}
use Rattle.graph.specs.Rows.{Edge, Rows}
use Rattle.ring.proofs.StandingLaws.{Following}
use Rattle.ring.proofs.circle.Given as goal

abbrev pub invariant-loop-k : goal.invariant-loop-k
invariant-loop-k l =
    (R : Rows l.n l.rows) (C : Ring l.n (Edge l.rows) (edge_count l.rows l.n)) → Following R C l.at l.last l.onward l.k
