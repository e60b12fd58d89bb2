-- `order::next_edge` meets its contract: a law of `Edges` at each return. Assumes nothing.
use native.Mathlib.Omega.{arith}
use Rattle.order.proofs.Edges.{not_lower, not_below, not_after, edge_right}
use Rattle.order.proofs.next_edge.Goals as goal

pub returns-then-b-a : goal.returns-then-b-a
returns-then-b-a c =
    not_lower c.args.tail.now c.args.j c.args.n c.args.last c.pair_at-edge.result.first c.pair_at-edge.result.second
    c.pair_at-edge.ensures (omega arith)

pub returns-then-n-b : goal.returns-then-n-b
returns-then-n-b c =
    not_below c.args.tail.now c.args.j c.args.n c.args.last c.pair_at-edge.result.first c.pair_at-edge.result.second
    c.pair_at-edge.ensures (omega arith)

pub returns-then-place-last : goal.returns-then-place-last
returns-then-place-last c =
    not_after c.args.tail.now c.args.j c.args.n c.args.last c.pair_at-edge.result.first c.pair_at-edge.result.second
    c.pair_at-edge.ensures (omega arith)

pub returns : goal.returns
returns c =
    edge_right c.args.tail.now c.args.j c.args.n c.args.last c.pair_at-edge.result.first c.pair_at-edge.result.second
    c.pair_at-edge.ensures (omega arith)
    (omega arith) (omega arith)
