-- `timetable::pad_set` meets its contract: the pad is read from the part that begins at the step's second byte. Assumes nothing.
use native.Mathlib.Omega.{arith}
use lib.ListN.{get_or}
use Rattle.timetable.proofs.StepLaws.{step_length-some}
use Rattle.timetable.proofs.Reading.{pad_room, pad_told}
use Rattle.timetable.proofs.pad_set.Goals as goal

pub slice_bounds-pad_after-count : goal.slice_bounds-pad_after-count
slice_bounds-pad_after-count c = omega (arith, step_length-some (get_or c.args.step.now 0 0))

pub slice_bounds-pad_after-start : goal.slice_bounds-pad_after-start
slice_bounds-pad_after-start c = omega (arith, step_length-some (get_or c.args.step.now 0 0))

pub bounds-step-0 : goal.bounds-step-0
bounds-step-0 c = omega (arith, step_length-some (get_or c.args.step.now 0 0))

pub pad_after-requires : goal.pad_after-requires
pad_after-requires c =
    pad_room c.args.step.now c.requires c.from.result c.from.ensures

pub returns : goal.returns
returns c =
    pad_told c.args.step.now c.requires c.from.result c.pad_after.result c.from.ensures c.pad_after.ensures
