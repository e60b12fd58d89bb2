-- `graph::search` meets its contract.
-- Assumes nothing.
use Rattle.graph.proofs.SearchLaws.{met_at, nearest_traced}
use Rattle.graph.proofs.search.Goals as goal

pub trace-at-requires : goal.trace-at-requires
trace-at-requires c =
    let s = rw c.in_ok-size.was at c.spread-reach.ensures in
    record {
      some = s.0;
      few = s.1.small;
      small = c.requires.from_bound;
      on = met_at c.only.ensures s.1 s.0;
      down = s.1.levels.down;
    }

pub returns : goal.returns
returns c =
    let s = rw c.in_ok-size.was at c.spread-reach.ensures in (s.0, nearest_traced c.only.ensures s.1 _ s.0 c.trace-at.ensures)
