-- `stepping::list_origins` meets its contract. The loop's invariant: the moves of the row for the positions passed are listed.
-- Assumes nothing.
use Prim.Native.Nat.{◌≤◌}
use Rattle.stepping.specs.Judging.{row_moves}
use Rattle.stepping.proofs.Turning.{Listing}
use Rattle.stepping.proofs.list_origins.Given as goal

abbrev pub invariant-loop-p : goal.invariant-loop-p
invariant-loop-p l = (l.count ≤ l.p) × Listing l.origins (row_moves l.origins 0 64) l.buffer l.count l.p
