-- `controller::wichteab_plan_convert` meets its contract: the count's answer, packed, and the buffer as it is left. Assumes nothing.
use mathlib.Core.Path.{ap, ◌∙◌}
use Rattle.packing.specs.Packed.{packed, one_count}
use Rattle.controller.proofs.AnswerSizes.{converter_sized}
use Rattle.controller.proofs.Judgements.{count_room}
use Rattle.packing.proofs.PackedLaws.{tells, plan-moves-pack}
use Rattle.controller.proofs.wichteab_plan_convert.Goals as goal

pub counted-requires : goal.counted-requires
counted-requires c = count_room plan-moves-pack (converter_sized _ _ _) _ c.convert.ensures.result_value

pub returns : goal.returns
returns c = record {
  tells = tells plan-moves-pack (converter_sized _ _ _) (c.counted.ensures ∙ ap (packed one_count) c.convert.ensures.result_value);
  buffer_after = c.convert.ensures.buffer_after;
}
