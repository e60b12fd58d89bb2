-- `parity::homes` meets its contract.
-- Assumes nothing.
use mathlib.Core.Path.{◌≡◌}
use lib.ListN.{length}
use Rattle.parity.specs.Work.{Homes}
use Rattle.parity.proofs.homes.Given as goal

abbrev pub invariant-loop-p : goal.invariant-loop-p
invariant-loop-p l = (length l.at ≡ 64) × Homes l.p l.racks l.at
