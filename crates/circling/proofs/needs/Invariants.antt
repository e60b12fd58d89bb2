-- `circling::needs` meets its contract. The invariant is the record `Needing`. Assumes nothing.
use Rattle.graph.specs.Rows.{row}
use Rattle.circling.proofs.NeedsLaws.{Needing}
use Rattle.circling.proofs.needs.Given as goal

abbrev pub invariant-loop-r : goal.invariant-loop-r
invariant-loop-r l = Needing l.n l.m l.from (row l.p) l.to (row l.g) l.need l.r
