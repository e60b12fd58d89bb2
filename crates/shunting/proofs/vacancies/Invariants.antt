-- `shunting::vacancies` meets its contract.
-- Assumes nothing.
use Rattle.graph.specs.Rows.{row}
use Rattle.shunting.specs.Cleared.{VacantBelow}
use Rattle.shunting.proofs.vacancies.Given as goal

abbrev pub invariant-loop-p : goal.invariant-loop-p
invariant-loop-p l = VacantBelow l.p (row l.racks) l.vacant
