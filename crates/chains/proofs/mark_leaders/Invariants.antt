-- `chains::mark_leaders` meets its contract. The loop's invariant: the first p marks say where a move leads. Assumes nothing.
use Rattle.chains.specs.Chains.{LeadersMarked}
use Rattle.chains.proofs.mark_leaders.Given as goal

abbrev pub invariant-loop-p : goal.invariant-loop-p
invariant-loop-p l = LeadersMarked l.racks l.marks l.p
