-- `staging::Tables::sum_of_distances` does not overflow: each distance is below 256. Assumes nothing.
use Prim.Native.Nat.{◌≤◌, ◌*◌}
use Rattle.staging.proofs.Tables.sum_of_distances.Given as goal

abbrev pub invariant-loop-q : goal.invariant-loop-q
invariant-loop-q l = l.sum ≤ 256 * l.q
