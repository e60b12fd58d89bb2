-- `timetable::step` meets its contract: `StepReader` has the part that is given back. Assumes nothing.
use native.Mathlib.Omega.{arith}
use mathlib.Core.Path.{sym}
use Rattle.timetable.proofs.StepReader.{part_given_lem}
use Rattle.timetable.proofs.HandedOut.{given_none, none_place, given_place, end_within}
use Rattle.timetable.proofs.step.Goals as goal

pub returns-in_default : goal.returns-in_default
returns-in_default c =
    let refused-there = sym c.in_default.ensures in
    let bytes = given_none c.args.timetable.now c.args.number _ _ refused-there in
    let place = none_place c.args.timetable.now c.args.number _ _ refused-there c.args.timetable.ref_ptr in
    record {
      bytes = sym bytes;
      place = sym place;
    }

pub overflow_add-end : goal.overflow_add-end
overflow_add-end c = omega (arith, end_within c.args.timetable.now c.args.number _ _ (sym c.in-Ok.ensures))

pub slice_bounds-result-end-2 : goal.slice_bounds-result-end-2
slice_bounds-result-end-2 c = omega (arith, end_within c.args.timetable.now c.args.number _ _ (sym c.in-Ok.ensures))

pub returns : goal.returns
returns c =
    let found-there = sym c.in-Ok.ensures in
    record {
      bytes = part_given_lem c.args.timetable.now c.args.number _ _ found-there;
      place = sym (given_place c.args.timetable.now c.args.number _ _ found-there c.args.timetable.ref_ptr);
    }
