-- `graph::around` meets its contract. The invariant is the record `Around`; each turn takes one position from the rest.
-- Assumes nothing.
use lib.Count.{ones}
use Rattle.graph.proofs.LevelLaws.{Around}
use Rattle.graph.proofs.around.Given as goal

abbrev pub invariant-loop-rest : goal.invariant-loop-rest
invariant-loop-rest l = Around l.rows l.set l.joined l.rest

abbrev pub decreases-loop-rest : goal.decreases-loop-rest
decreases-loop-rest l = ones l.rest
