-- `controller::wichteab_plan_check` meets its contract: the count's answer, packed. Assumes nothing.
use mathlib.Core.Path.{ap, ◌∙◌}
use Rattle.packing.specs.Packed.{packed, one_count}
use Rattle.controller.proofs.AnswerSizes.{plan_sized}
use Rattle.controller.proofs.Judgements.{count_room}
use Rattle.packing.proofs.PackedLaws.{tells, plan-moves-pack}
use Rattle.controller.proofs.wichteab_plan_check.Goals as goal

pub counted-requires : goal.counted-requires
counted-requires c = count_room plan-moves-pack (plan_sized _ _) _ c.check.ensures

pub returns : goal.returns
returns c = tells plan-moves-pack (plan_sized _ _) (c.counted.ensures ∙ ap (packed one_count) c.check.ensures)
