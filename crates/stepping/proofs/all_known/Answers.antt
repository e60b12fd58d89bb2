-- `stepping::all_known` meets its contract. The loop's invariant: whether the moves left name known positions decides. Assumes nothing.
use native.Mathlib.Omega.{arith}
use Rattle.stepping.proofs.Knowing.{unknown_left, unknown_entered, knowing_next, knowing_last}
use Rattle.stepping.proofs.all_known.Goals as goal

pub returns-then-n-a : goal.returns-then-n-a
returns-then-n-a c =
    unknown_left c.args.n c.args.step.now c.loop-x.x-index _ _ c.loop-x.invariant (omega arith) c.first_of-a.ensures c.second_of-b.ensures
    (omega arith)

pub returns-then-n-b : goal.returns-then-n-b
returns-then-n-b c =
    unknown_entered c.args.n c.args.step.now c.loop-x.x-index _ _ c.loop-x.invariant (omega arith) c.first_of-a.ensures
    c.second_of-b.ensures
    (omega arith) (omega arith)

pub loop-x-preserved : goal.loop-x-preserved
loop-x-preserved c =
    knowing_next c.args.n c.args.step.now c.loop-x.x-index _ _ c.loop-x.invariant (omega arith) c.first_of-a.ensures c.second_of-b.ensures
    (omega arith) (omega arith)

pub returns : goal.returns
returns c = knowing_last c.args.n c.args.step.now c.loop-x.x-index c.loop-x.invariant (omega arith)
