-- `graph::is_connected` meets its contract.
-- Assumes nothing.
use Rattle.graph.proofs.SearchLaws.{whole_set}
use Rattle.graph.proofs.is_connected.Goals as goal

pub returns : goal.returns
returns c = whole_set c.args.rows.now _ c.below.ensures _ c.is_whole.ensures
