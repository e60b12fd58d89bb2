-- `breakdown::ring_way` meets its contract. The targets are the positions beside a, without b.
-- Assumes nothing.
use Rattle.sets.specs.Sets.{Has}
use Rattle.graph.specs.Connected.{Except, Below}
use Rattle.graph.specs.Rows.{Edge}
use Rattle.graph.proofs.NearestLaws.{route_targets}
use Rattle.breakdown.specs.Choice.{Beside}
use Rattle.breakdown.proofs.ring_way.Goals as goal

pub returns : goal.returns
returns c =
    route_targets (Edge c.args.rows.now) (Except (Below c.args.n) c.args.a) (Has c.without.result) c.args.b
    (Beside (Edge c.args.rows.now) c.args.a c.args.b) c.way_round.result
    (λ p h. record { edge = ((c.without.ensures p).0 h).0; other = ((c.without.ensures p).0 h).1 })
    (λ p e. (c.without.ensures p).1 (e.edge, e.other)) c.way_round.ensures
