-- `timetable::offset_of` meets its contract. The loop's invariant: what is left begins at `at`, with the step of the counter. Assumes
-- nothing.
use Prim.Native.Nat.{◌-◌}
use native.Mathlib.Omega.{arith}
use Rattle.timetable.proofs.ReadingLaws.{stands-first, stands_room}
use Rattle.timetable.proofs.StepReader.{stands_on, stands_there}
use Rattle.timetable.proofs.offset_of.Goals as goal

pub loop-init : goal.loop-init
loop-init c = stands-first _ c.requires.0

pub bounds-timetable-at : goal.bounds-timetable-at
bounds-timetable-at c =
    (stands_room c.args.timetable.now (c.loop.counter - 1) c.loop.at c.loop.invariant (omega arith)).begins

pub loop-preserved : goal.loop-preserved
loop-preserved c =
    stands_on _ c.loop.counter c.loop.at _ (omega arith) (omega arith) c.loop.invariant c.step_length-at.ensures.size_is

pub returns : goal.returns
returns c =
    stands_there c.args.timetable.now c.args.number c.loop.counter
    c.loop.at (omega arith) (omega arith) c.requires.2 (omega arith) c.loop.invariant
