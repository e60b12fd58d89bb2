-- `graph::is_whole` meets its contract.
-- Assumes nothing.
use Rattle.graph.proofs.Decision.{says-yes}
use Rattle.graph.proofs.SearchLaws.{whole-nothing, whole_searched, empty_test}
use Rattle.graph.proofs.is_whole.Goals as goal

pub returns-then-set-eq0 : goal.returns-then-set-eq0
returns-then-set-eq0 c = says-yes (whole-nothing c.args.rows.now c.args.set c.if-set-eq0.true)

pub returns : goal.returns
returns c =
    empty_test _ (whole_searched c.args.rows.now c.args.set _ _ _ c.spread-reach.result.depth c.spread-reach.new.levels c.requires
    c.lowest.ensures.has c.only-base.ensures c.spread-reach.ensures)
