-- `trains::fill_step` meets its contract. The loop's invariant: the first j moves are kept. Assumes nothing.
use Prim.Native.Nat.{◌+◌}
use native.Mathlib.Omega.{arith}
use lib.ListN.{length}
use Rattle.chains.proofs.Moves.{kept_next, kept-all}
use Rattle.trains.proofs.fill_step.Goals as goal

pub returns-then-j-step : goal.returns-then-j-step
returns-then-j-step c =
    let next = kept_next c.args.moves.now c.loop-j.step (length c.args.step.now) c.loop-j.j _ (omega arith)
    c.entry_at-then-j-step.ensures c.loop-j.invariant.1 in
    kept-all c.args.moves.now _ (length c.args.step.now) (c.loop-j.j + 1) (omega arith) next

pub returns-else-j-step : goal.returns-else-j-step
returns-else-j-step c =
    kept-all c.args.moves.now c.loop-j.step (length c.args.step.now) c.loop-j.j (omega arith) c.loop-j.invariant.1
