-- The measure of `chains::follow_chain`: the number of moves that are not marked as visited.
-- Assumes nothing.
use Rattle.chains.proofs.ChainsLaws.{unvisited}
use Rattle.chains.proofs.+follow_chain.Given as goal

abbrev pub decreases-follow_chain : goal.decreases-follow_chain
decreases-follow_chain l = unvisited l.target.now l.marks.now
