-- `plan::names_racks` meets its contract. Assumes nothing.
use mathlib.Core.Path.{ap}
use lib.Dec.{eqb}
use Rattle.plan.specs.Plan.{named}
use Rattle.plan.proofs.names_racks.Goals as goal

pub returns : goal.returns
unfolding named
returns c = ap (λ x. eqb x 1) c.spare_at_head.ensures
