-- `circling::aim` meets its contract. The invariant: the best so far is one to aim at. Assumes nothing.
use Rattle.graph.specs.Rows.{row}
use Rattle.circling.specs.Needs.{Aimed}
use Rattle.circling.proofs.aim.Given as goal

abbrev pub invariant-loop-lap : goal.invariant-loop-lap
invariant-loop-lap l = Aimed l.n l.from (row l.g 1) l.best
