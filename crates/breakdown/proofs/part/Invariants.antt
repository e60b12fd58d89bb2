-- `breakdown::part` meets its contract.
-- Assumes nothing.
use Prim.Native.Nat.{◌≤◌}
use mathlib.Core.Path.{◌≡◌}
use mathlib.Core.Logic.{◌⊎◌}
use Rattle.graph.specs.Rows.{row}
use Rattle.breakdown.specs.Part.{Part}
use Rattle.breakdown.proofs.part.Given as goal

abbrev pub invariant-loop-i : goal.invariant-loop-i
invariant-loop-i l = ((l.i ≤ l.to) ⊎ (l.i ≡ l.from)) × Part (row l.order) l.from l.i l.set
