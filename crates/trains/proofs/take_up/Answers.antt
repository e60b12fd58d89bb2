-- `trains::take_up` meets its contract. The loop's invariant: what is left to take up decides the table at the end. Assumes nothing.
use mathlib.Core.Path.{refl}
use native.Mathlib.Omega.{arith}
use Rattle.chains.specs.StepOn.{moves_of, taken_up}
use Rattle.chains.proofs.Moves.{left-first, left-next, left_last, moves_from, moves_at, moves_none}
use Rattle.trains.proofs.take_up.Goals as goal

pub loop-x-init : goal.loop-x-init
loop-x-init c = left-first taken_up (moves_from c.args.step.now) (moves_of c.args.step.now) c.args.racks.now refl

pub loop-x-preserved : goal.loop-x-preserved
unfolding taken_up
loop-x-preserved c =
    let at = moves_at c.args.step.now c.loop-x.x-index _ _ (omega arith) c.first_of.ensures refl in
    left-next taken_up (moves_from c.args.step.now) (moves_of c.args.step.now) c.args.racks.now c.loop-x.racks c.loop-x.x-index _ _
    c.loop-x.invariant at _ (λ ms. refl)

pub returns : goal.returns
unfolding taken_up
returns c =
    left_last taken_up (moves_from c.args.step.now) (moves_of c.args.step.now) c.args.racks.now c.loop-x.racks c.loop-x.x-index
    c.loop-x.invariant (moves_none c.args.step.now c.loop-x.x-index (omega arith))
