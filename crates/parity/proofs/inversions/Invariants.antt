-- `parity::inversions` meets its contract.
-- Assumes nothing.
use Prim.Native.Nat.{◌+◌, ◌-◌, ◌*◌, ◌≤◌}
use mathlib.Core.Path.{◌≡◌}
use Rattle.parity.specs.Permutation.{inversions}
use Rattle.parity.specs.Work.{entries}
use Rattle.parity.proofs.inversions.Given as goal

abbrev pub invariant-loop-i : goal.invariant-loop-i
invariant-loop-i l =
    (l.count ≤ 64 * l.i) × (l.count + inversions (entries l.list l.i (l.n - l.i)) ≡ inversions (entries l.list 0 l.n))
