-- `stepping::note_origins` meets its contract. The loop's invariant: the moves that are left decide the row at the end. Assumes nothing.
use native.Mathlib.Omega.{arith}
use Rattle.stepping.proofs.Turning.{noting_first, noting_next, noting_last}
use Rattle.stepping.proofs.note_origins.Goals as goal

pub loop-x-init : goal.loop-x-init
loop-x-init c = noting_first c.args.step.now c.args.origins.now

pub loop-x-preserved : goal.loop-x-preserved
loop-x-preserved c =
    noting_next c.args.step.now c.args.origins.now c.loop-x.origins c.loop-x.x-index _ _ c.loop-x.invariant (omega arith)
    c.first_of-a.ensures c.second_of-b.ensures

pub returns : goal.returns
returns c = noting_last c.args.step.now c.args.origins.now c.loop-x.origins c.loop-x.x-index c.loop-x.invariant (omega arith)
