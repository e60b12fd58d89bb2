-- `breakdown::part` meets its contract.
-- Assumes nothing.
use mathlib.Core.Path.{refl}
use mathlib.Core.Logic.{inr}
use native.Mathlib.Omega.{arith}
use Rattle.graph.specs.Rows.{row}
use Rattle.breakdown.proofs.PartLaws.{part_none}
use Rattle.breakdown.proofs.part.Goals as goal

pub loop-i-init : goal.loop-i-init
loop-i-init c = (inr refl, part_none (row c.args.order.now) c.args.from c.args.from (omega arith))
