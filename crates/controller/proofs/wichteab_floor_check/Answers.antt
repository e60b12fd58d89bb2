-- `controller::wichteab_floor_check` meets its contract: the reader's answer, packed. Assumes nothing.
use mathlib.Core.Path.{ap, ◌∙◌}
use Rattle.packing.specs.Packed.{packed, nothing}
use Rattle.controller.proofs.AnswerSizes.{floor_sized}
use Rattle.packing.proofs.PackedLaws.{tells, nothing_packs}
use Rattle.controller.proofs.wichteab_floor_check.Goals as goal

pub returns : goal.returns
returns c = tells nothing_packs (floor_sized _) (c.judged.ensures ∙ ap (packed nothing) c.check.ensures)
