-- `controller::wichteab_order_expand` meets its contract: the count's answer, packed, and the buffer as it is left. Assumes nothing.
use mathlib.Core.Path.{ap, ◌∙◌}
use Rattle.packing.specs.Packed.{packed, one_count}
use Rattle.controller.proofs.AnswerSizes.{expand_sized}
use Rattle.controller.proofs.Judgements.{count_room}
use Rattle.packing.proofs.PackedLaws.{tells, record_length_packs}
use Rattle.controller.proofs.wichteab_order_expand.Goals as goal

pub counted-requires : goal.counted-requires
counted-requires c = count_room record_length_packs (expand_sized _ _) _ c.expand.ensures.answer

pub returns : goal.returns
returns c = record {
  tells = tells record_length_packs (expand_sized _ _) (c.counted.ensures ∙ ap (packed one_count) c.expand.ensures.answer);
  buffer_after = c.expand.ensures.buffer;
}
