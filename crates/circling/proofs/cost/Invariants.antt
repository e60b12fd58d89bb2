-- `circling::cost` is safe and ends. Assumes nothing.
use Prim.Native.Nat.{◌*◌, ◌≤◌}
use Rattle.circling.proofs.cost.Given as goal

abbrev pub invariant-loop-r : goal.invariant-loop-r
invariant-loop-r l = l.sum ≤ 1024 * l.r
