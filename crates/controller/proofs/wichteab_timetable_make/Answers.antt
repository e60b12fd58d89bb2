-- `controller::wichteab_timetable_make` meets its contract: the count's answer, packed, and the buffer as it is left. Assumes nothing.
use mathlib.Core.Path.{ap, ◌∙◌}
use Rattle.packing.specs.Packed.{packed, one_count}
use Rattle.controller.proofs.AnswerSizes.{maker_sized}
use Rattle.controller.proofs.Judgements.{count_room}
use Rattle.packing.proofs.PackedLaws.{tells, made_steps_pack}
use Rattle.controller.proofs.wichteab_timetable_make.Goals as goal

pub counted-requires : goal.counted-requires
counted-requires c = count_room made_steps_pack (maker_sized _ _ _) _ c.make.ensures.result_value

pub returns : goal.returns
returns c = record {
  tells = tells made_steps_pack (maker_sized _ _ _) (c.counted.ensures ∙ ap (packed one_count) c.make.ensures.result_value);
  buffer_after = c.make.ensures.buffer_after;
}
