-- `breakdown::choose_ring` meets its contract. The invariant: the best pair is the choice among the pairs that begin before a.
-- Assumes nothing.
use Rattle.breakdown.specs.Choice.{Before, Chosen, RingChoice}
use Rattle.breakdown.proofs.choose_ring.Given as goal

abbrev pub invariant-loop-a : goal.invariant-loop-a
invariant-loop-a l = Chosen (RingChoice l.n l.rows (Before l.a)) l.best
