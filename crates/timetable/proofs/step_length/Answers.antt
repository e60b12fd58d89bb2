-- `timetable::step_length` meets its contract. Assumes nothing.
use native.Mathlib.Omega.{arith}
use Rattle.timetable.specs.Timetable.{step_length}
use Rattle.timetable.proofs.step_length.Goals as goal

pub returns : goal.returns
unfolding step_length
returns c =
    record { size_is = omega arith; some_bytes = omega arith; moves_within = omega arith; few_bytes = omega arith }
