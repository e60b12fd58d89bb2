-- `timetable::find_step` meets its contract: `StepReader` has the answers above that of 45. Assumes nothing.
use Rattle.timetable.proofs.StepReader.{not_found, found}
use Rattle.timetable.proofs.HandedOut.{number_gave}
use Rattle.timetable.proofs.find_step.Goals as goal

pub returns-in_err-read_number : goal.returns-in_err-read_number
returns-in_err-read_number c =
    not_found c.args.timetable.now c.args.number c.from_residual.result _ c.from_residual.ensures.1 c.in_err-read_number.ensures

pub offset_of-offset-requires : goal.offset_of-offset-requires
offset_of-offset-requires c =
    let has = number_gave c.args.timetable.now c.args.number _ c.in_ok-read_number.ensures in
    (has.length_right, has.low, has.high)

pub returns : goal.returns
returns c =
    found c.args.timetable.now c.args.number
    (number_gave c.args.timetable.now c.args.number _ c.in_ok-read_number.ensures)
    _ _ c.offset_of-offset.ensures.0 c.step_length.ensures.size_is _ c.in_ok-read_number.ensures
