-- `timetable_check::replay` meets its contract. The loop's invariant: what is left to replay decides. Assumes nothing.
use native.Mathlib.Omega.{arith}
use Rattle.timetable.proofs.ReadingLaws.{stands_room}
use Rattle.timetable_check.proofs.Turns.{steps_first, steps_stop, steps_on, steps_end}
use Rattle.timetable_check.proofs.replay.Goals as goal

pub loop-i-init : goal.loop-i-init
loop-i-init c = steps_first _ _ _ c.requires.0

pub bounds-timetable-at : goal.bounds-timetable-at
bounds-timetable-at c = (stands_room c.args.timetable.now c.loop-i.i c.loop-i.at c.loop-i.invariant.stands (omega arith)).begins

pub slice_bounds-run_part-end : goal.slice_bounds-run_part-end
slice_bounds-run_part-end c =
    omega (
      arith,
      (stands_room c.args.timetable.now c.loop-i.i c.loop-i.at c.loop-i.invariant.stands (omega arith)).ends,
      c.step_length.ensures.size_is,
    )

pub returns-then-not-run_part : goal.returns-then-not-run_part
returns-then-not-run_part c =
    steps_stop c.args.timetable.now c.args.matrix.now c.args.racks.now c.loop-i.racks c.loop-i.i c.loop-i.at
    c.step_length.result c.loop-i.invariant (omega arith) c.step_length.ensures.size_is c.run_part.result
    c.run_part.ensures.judged c.if-not-run_part.true

pub loop-i-preserved : goal.loop-i-preserved
loop-i-preserved c =
    steps_on c.args.timetable.now c.args.matrix.now c.args.racks.now c.loop-i.racks c.loop-i.i c.loop-i.at
    c.step_length.result c.loop-i.invariant (omega arith) c.step_length.ensures.size_is c.run_part.result
    c.run_part.ensures.judged c.if-not-run_part.false _ c.run_part.ensures.made

pub returns : goal.returns
returns c =
    steps_end c.args.timetable.now c.args.matrix.now c.args.racks.now c.loop-i.racks c.loop-i.i c.loop-i.at c.loop-i.invariant (omega arith)
