-- `decoding::mark_edges` meets its contract. The loop's invariant: what is left to mark decides the matrix at the end. Assumes nothing.
use native.Mathlib.Omega.{arith}
use Rattle.order.proofs.Tables.{mark_first, mark_next, mark_last}
use Rattle.decoding.proofs.mark_edges.Goals as goal

pub loop-j-init : goal.loop-j-init
loop-j-init c = mark_first c.args.tail.now c.args.e c.args.matrix.now

pub loop-j-preserved : goal.loop-j-preserved
loop-j-preserved c =
    mark_next c.args.tail.now c.args.e c.args.matrix.now c.loop-j.matrix c.loop-j.j
    c.pair_at-edge.result.first c.pair_at-edge.result.second c.loop-j.invariant (omega arith) c.pair_at-edge.ensures.first_is
    c.pair_at-edge.ensures.second_is

pub returns : goal.returns
returns c =
    mark_last c.args.tail.now c.args.e
    c.args.matrix.now c.loop-j.matrix c.loop-j.j c.loop-j.invariant (omega arith)
