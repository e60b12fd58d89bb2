-- `graph::is_connected_without` meets its contract.
-- Assumes nothing.
use Rattle.graph.proofs.SearchLaws.{whole_set, except_is}
use Rattle.graph.proofs.is_connected_without.Goals as goal

pub returns : goal.returns
returns c =
    whole_set c.args.rows.now _ (λ p. except_is c.args.n c.args.x _ _ p (c.below.ensures p)
    (c.without.ensures p)) _ c.is_whole.ensures
