-- `breakdown::way_round` meets its contract. The free positions are those without x.
-- Assumes nothing.
use Rattle.sets.specs.Sets.{Has}
use Rattle.graph.specs.Connected.{Except, Below}
use Rattle.graph.specs.Rows.{Edge}
use Rattle.graph.proofs.NearestLaws.{route_same}
use Rattle.breakdown.proofs.way_round.Goals as goal

pub returns : goal.returns
returns c =
    route_same (Edge c.args.rows.now) (Has c.without.result) (Has c.args.targets) c.args.from
    (Except (Below c.args.n) c.args.x) c.search.result
    (λ p h. record { there = (c.below.ensures p).0 ((c.without.ensures p).0 h).0; other = ((c.without.ensures p).0 h).1 })
    (λ p e. (c.without.ensures p).1 ((c.below.ensures p).1 e.there, e.other)) c.search.ensures
