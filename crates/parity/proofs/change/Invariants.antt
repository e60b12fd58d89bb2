-- `parity::change` meets its contract.
-- Assumes nothing.
use mathlib.Core.Path.{◌≡◌}
use lib.ListN.{length}
use Rattle.parity.specs.Work.{Sent}
use Rattle.parity.proofs.change.Given as goal

abbrev pub invariant-loop-p : goal.invariant-loop-p
invariant-loop-p l = (length l.sent ≡ 64) × Sent l.p l.starts l.at l.sent
