-- `text::put_steps` meets its contract. The loop's invariant: i steps are passed, and the lines of those after them are left to write.
-- Assumes nothing.
use native.Mathlib.Omega.{arith}
use Rattle.timetable.proofs.ReadingLaws.{stands-first, stands_room}
use Rattle.field.proofs.WritingLaws.{left-first}
use Rattle.writers.proofs.Parts.{next_fits, next-left, all_wrote}
use Rattle.text.proofs.Loops.{Cut, cut_ends, cut_length, lines_next, stands_after, lines_none}
use Rattle.text.proofs.put_steps.Goals as goal

pub loop-i-init : goal.loop-i-init
loop-i-init c =
    (stands-first c.args.timetable.now c.requires.0, left-first)

pub bounds-timetable-begin : goal.bounds-timetable-begin
bounds-timetable-begin c =
    (stands_room c.args.timetable.now c.loop-i.i c.loop-i.begin c.loop-i.invariant.0 (omega arith)).begins

pub overflow_add-end : goal.overflow_add-end
overflow_add-end c = omega (
  arith,
  cut_ends ((let it : Cut c.args.timetable.now c.loop-i.i c.loop-i.begin
      c.step_length.result = record {
        stands = c.loop-i.invariant.0;
        there = omega arith;
        size =
            c.step_length.ensures.size_is;
      } in it)),
)

pub slice_bounds-put_step-end : goal.slice_bounds-put_step-end
slice_bounds-put_step-end c = omega (
  arith,
  cut_ends ((let it : Cut c.args.timetable.now c.loop-i.i c.loop-i.begin
      c.step_length.result = record {
        stands = c.loop-i.invariant.0;
        there = omega arith;
        size =
            c.step_length.ensures.size_is;
      } in it)),
)

pub put_step-next-requires : goal.put_step-next-requires
put_step-next-requires c = (
  cut_length ((let it : Cut c.args.timetable.now c.loop-i.i c.loop-i.begin c.step_length.result = record
      { stands = c.loop-i.invariant.0; there = omega arith; size = c.step_length.ensures.size_is } in it)),
  next_fits
      _ _ (lines_next ((let it : Cut c.args.timetable.now c.loop-i.i c.loop-i.begin c.step_length.result = record
      { stands = c.loop-i.invariant.0; there = omega arith; size = c.step_length.ensures.size_is } in it)))
      c.requires.2 c.loop-i.invariant.1,
)

pub loop-i-preserved : goal.loop-i-preserved
loop-i-preserved c = (
  stands_after ((let it : Cut c.args.timetable.now c.loop-i.i c.loop-i.begin c.step_length.result = record
      { stands = c.loop-i.invariant.0; there = omega arith; size = c.step_length.ensures.size_is } in it)),
  next-left _ _ (lines_next ((let it : Cut c.args.timetable.now c.loop-i.i c.loop-i.begin c.step_length.result = record
      { stands = c.loop-i.invariant.0; there = omega arith; size = c.step_length.ensures.size_is } in it))) c.requires.2
      c.loop-i.invariant.1 c.put_step-next.ensures,
)

pub shape_of-out : goal.shape_of-out
shape_of-out c = c.loop-i.invariant.1.length_same

pub returns : goal.returns
returns c =
    all_wrote (lines_none c.args.timetable.now c.loop-i.i (omega arith)) c.loop-i.invariant.1
