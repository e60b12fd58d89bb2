-- `breakdown::extend` meets its contract. The invariant: the first i positions are in the row, and the others are still to settle.
-- Assumes nothing.
use Prim.Native.Nat.{ℕ, ◌≤◌, ◌<◌}
use lib.ListN.{length}
use Rattle.sets.specs.Sets.{Has}
use Rattle.graph.specs.Rows.{row}
use Rattle.breakdown.specs.Building.{Extended}
use Rattle.breakdown.proofs.extend.Given as goal

abbrev pub invariant-loop-i : goal.invariant-loop-i
invariant-loop-i l =
    Extended l.at l.i l.m l.initial.order l.order l.settled × ((j : ℕ) → l.i ≤ j → j < length l.at → Has l.settled (row l.at j) → ⊥)
