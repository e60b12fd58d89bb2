-- `controller::wichteab_timetable_step` meets its contract: the verdict's answer, packed; `SizeLaws` has the bounds. Assumes nothing.
use mathlib.Core.Path.{ap, sym, ◌∙◌}
use Rattle.timetable.specs.Reading.{answer_of_step}
use Rattle.packing.specs.Packed.{packed, length_and_offset}
use Rattle.controller.proofs.AnswerSizes.{step_sized}
use Rattle.packing.proofs.PackedLaws.{room_of, tells, offset-length_packs}
use Rattle.controller.proofs.wichteab_timetable_step.Goals as goal

pub length_and_offset-requires : goal.length_and_offset-requires
length_and_offset-requires c =
    room_of offset-length_packs (step_sized _ _ (λ i. (c.type_inv.timetable i).fits))
    (ap answer_of_step (sym c.in-Ok.is) ∙ c.find_step.ensures)

pub returns-in-Ok : goal.returns-in-Ok
returns-in-Ok c =
    tells offset-length_packs (step_sized _ _ (λ i. (c.type_inv.timetable i).fits))
    (c.length_and_offset.ensures
    ∙ ap (packed length_and_offset) (ap answer_of_step (sym c.in-Ok.is) ∙ c.find_step.ensures))

pub returns-in-Err : goal.returns-in-Err
returns-in-Err c =
    tells offset-length_packs (step_sized _ _ (λ i. (c.type_inv.timetable i).fits))
    (c.refusal.ensures ∙ ap (packed length_and_offset) (ap answer_of_step (sym c.in-Err.is) ∙ c.find_step.ensures))
