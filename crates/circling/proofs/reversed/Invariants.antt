-- `circling::reversed` meets its contract. The invariant: the places before j are written. Assumes nothing.
use mathlib.Core.Path.{◌≡◌}
use lib.ListN.{length}
use Rattle.graph.specs.Rows.{row}
use Rattle.circling.proofs.LandsLaws.{Mirrored}
use Rattle.circling.proofs.reversed.Given as goal

abbrev pub invariant-loop-j : goal.invariant-loop-j
invariant-loop-j l = (length l.back ≡ 64) × Mirrored l.n (row l.circle) (row l.back) l.j
