-- `order::edges_sound` meets its contract. The loop's invariant: what is left to judge, given the last edge's place,
-- decides. Assumes nothing.
use native.Mathlib.Omega.{arith}
use Rattle.order.proofs.Edges.{left-first, not_right, left-next, left_none}
use Rattle.order.proofs.edges_sound.Goals as goal

pub loop-j-init : goal.loop-j-init
loop-j-init c = left-first _ _ _

pub returns-in_default : goal.returns-in_default
returns-in_default c =
    not_right c.args.tail.now c.args.n c.args.e c.loop-j.last c.loop-j.j c.loop-j.invariant (omega arith) c.in_default.ensures

pub loop-j-preserved : goal.loop-j-preserved
loop-j-preserved c =
    left-next c.args.tail.now c.args.n c.args.e c.loop-j.last c.loop-j.j c.loop-j.invariant (omega arith) c.in-Some.place c.in-Some.ensures

pub returns : goal.returns
returns c =
    left_none c.args.tail.now c.args.n c.args.e c.loop-j.last c.loop-j.j c.loop-j.invariant (omega arith)
