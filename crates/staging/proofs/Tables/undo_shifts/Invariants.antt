-- `staging::Tables::undo_shifts` meets its contract. The invariant: the plan has room in its table. Assumes nothing.
use Prim.Native.Nat.{◌≤◌}
use Rattle.staging.proofs.Tables.undo_shifts.Given as goal

abbrev pub invariant-loop-i : goal.invariant-loop-i
invariant-loop-i l = l.total ≤ 4096
