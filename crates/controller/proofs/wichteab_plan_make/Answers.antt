-- `controller::wichteab_plan_make` meets its contract: the count's answer, packed, and the buffer as the planner leaves it. Assumes
-- nothing.
use mathlib.Core.Path.{refl}
use Rattle.controller.proofs.AnswerSizes.{made_sized}
use Rattle.controller.proofs.Judgements.{count_room}
use Rattle.packing.proofs.PackedLaws.{tells, plan-moves-pack}
use Rattle.controller.proofs.wichteab_plan_make.Goals as goal

pub counted-requires : goal.counted-requires
counted-requires c = count_room plan-moves-pack (made_sized c.make.ensures) c.make.result refl

pub returns : goal.returns
returns c = (_, tells plan-moves-pack (made_sized c.make.ensures) c.counted.ensures, c.make.ensures)
