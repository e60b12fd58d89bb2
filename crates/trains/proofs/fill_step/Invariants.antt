-- `trains::fill_step` meets its contract. The loop's invariant: the first j moves are kept. Assumes nothing.
use Prim.Native.Nat.{◌≤◌, ◌-◌}
use lib.ListN.{length}
use Rattle.chains.proofs.Moves.{Kept}
use Rattle.trains.proofs.fill_step.Given as goal

abbrev pub invariant-loop-j : goal.invariant-loop-j
invariant-loop-j l = (l.j ≤ length l.initial.step) × Kept l.moves l.step (length l.initial.step) l.j

abbrev pub decreases-loop-j : goal.decreases-loop-j
decreases-loop-j l = length l.initial.step - l.j
