-- `parity::smaller` meets its contract.
-- Assumes nothing.
use Prim.Native.Nat.{◌+◌, ◌-◌, ◌≤◌}
use mathlib.Core.Path.{◌≡◌}
use Rattle.parity.specs.Permutation.{smaller}
use Rattle.parity.specs.Work.{entries}
use Rattle.parity.proofs.smaller.Given as goal

abbrev pub invariant-loop-i : goal.invariant-loop-i
invariant-loop-i l =
    (l.count + l.from ≤ l.i) × (l.count + smaller l.x (entries l.list l.i (l.n - l.i)) ≡ smaller l.x (entries l.list l.from (l.n - l.from)))
