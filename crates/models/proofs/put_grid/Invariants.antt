-- `models::put_grid` meets its contract. The loop's invariant: what is left to write decides the bytes at the end. Assumes nothing.
use Prim.Native.Nat.{◌-◌}
use Rattle.models.specs.Grid.{edges_on, grid_edges}
use Rattle.models.proofs.PutLaws.{Left}
use Rattle.models.proofs.put_grid.Given as goal

abbrev pub invariant-loop-p : goal.invariant-loop-p
invariant-loop-p l = Left l.initial.tail 0 (grid_edges l.rows l.columns) l.tail l.j (edges_on l.n l.columns l.p (l.n - l.p))
