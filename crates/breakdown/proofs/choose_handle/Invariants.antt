-- `breakdown::choose_handle` meets its contract. The invariant: the best pair is the choice among the pairs that begin before u.
-- Assumes nothing.
use Rattle.breakdown.specs.Choice.{Before, Chosen, HandleChoice}
use Rattle.breakdown.proofs.choose_handle.Given as goal

abbrev pub invariant-loop-u : goal.invariant-loop-u
invariant-loop-u l = Chosen (HandleChoice l.n l.rows l.settled (Before l.u)) l.best
