-- `tables::misplaced` meets its contract. The loop's invariant: what is left to look up decides. Assumes nothing.
use Rattle.tables.proofs.Goals.{Left}
use Rattle.tables.proofs.misplaced.Given as goal

abbrev pub invariant-loop-i : goal.invariant-loop-i
invariant-loop-i l = Left l.tail l.from l.m l.racks l.i
