-- `controller::wichteab_timetable_check` meets its contract: the verdict's answer, packed; `SizeLaws` has the bounds. Assumes nothing.
use mathlib.Core.Path.{ap, sym, ◌∙◌}
use Rattle.timetable.specs.Checking.{answer_of_check}
use Rattle.packing.specs.Packed.{packed, steps_and_moves}
use Rattle.controller.proofs.AnswerSizes.{timetable_sized}
use Rattle.packing.proofs.PackedLaws.{room_of, tells, steps_moves-pack}
use Rattle.controller.proofs.wichteab_timetable_check.Goals as goal

pub steps_and_moves-requires : goal.steps_and_moves-requires
steps_and_moves-requires c =
    room_of steps_moves-pack (timetable_sized _ _ (λ i. (c.type_inv.timetable i).fits))
    (ap answer_of_check (sym c.in-Ok.is) ∙ c.check.ensures)

pub returns-in-Ok : goal.returns-in-Ok
returns-in-Ok c =
    tells steps_moves-pack (timetable_sized _ _ (λ i. (c.type_inv.timetable i).fits))
    (c.steps_and_moves.ensures ∙ ap (packed steps_and_moves) (ap answer_of_check (sym c.in-Ok.is) ∙ c.check.ensures))

pub returns-in-Err : goal.returns-in-Err
returns-in-Err c =
    tells steps_moves-pack (timetable_sized _ _ (λ i. (c.type_inv.timetable i).fits))
    (c.refusal.ensures ∙ ap (packed steps_and_moves) (ap answer_of_check (sym c.in-Err.is) ∙ c.check.ensures))
