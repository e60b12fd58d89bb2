-- `trains::put_down` meets its contract. The loop's invariant: what is left to put down decides the table at the end. Assumes nothing.
use mathlib.Core.Path.{refl}
use native.Mathlib.Omega.{arith}
use Rattle.chains.specs.StepOn.{moves_of, put_down}
use Rattle.chains.proofs.Moves.{left-first, left-next, left_last, moves_from, moves_at, moves_none}
use Rattle.trains.proofs.put_down.Goals as goal

pub loop-x-init : goal.loop-x-init
loop-x-init c = left-first (put_down c.args.before.now) (moves_from c.args.step.now) (moves_of c.args.step.now) c.args.racks.now refl

pub loop-x-preserved : goal.loop-x-preserved
unfolding put_down
loop-x-preserved c =
    let at = moves_at c.args.step.now c.loop-x.x-index _ _ (omega arith) c.first_of.ensures c.second_of.ensures in
    left-next (put_down c.args.before.now) (moves_from c.args.step.now) (moves_of c.args.step.now) c.args.racks.now c.loop-x.racks
    c.loop-x.x-index _ _ c.loop-x.invariant at _ (λ ms. refl)

pub returns : goal.returns
unfolding put_down
returns c =
    left_last (put_down c.args.before.now) (moves_from c.args.step.now) (moves_of c.args.step.now) c.args.racks.now c.loop-x.racks
    c.loop-x.x-index c.loop-x.invariant (moves_none c.args.step.now c.loop-x.x-index (omega arith))
