-- `timetable::read` meets its contract: a refusal of the steps is handed up, and `Reading` has the answers above their acceptance.
-- Assumes nothing.
use native.Mathlib.Omega.{arith}
use Rattle.timetable.proofs.Reading.{short, handed_on, spare_set, sound}
use Rattle.timetable.proofs.read.Goals as goal

pub returns-then-timetable-lt3 : goal.returns-then-timetable-lt3
returns-then-timetable-lt3 c = short c.args.timetable.now (omega arith)

pub returns-in_err-counts : goal.returns-in_err-counts
returns-in_err-counts c =
    handed_on c.args.timetable.now (omega arith) c.count_at_head-count.result c.count_at_head-count.ensures
    c.from_residual.result _ c.from_residual.ensures.1 c.in_err-counts.ensures

pub returns-then-spare_at_head-ne0 : goal.returns-then-spare_at_head-ne0
returns-then-spare_at_head-ne0 c =
    spare_set c.args.timetable.now (omega arith) c.count_at_head-count.result c.count_at_head-count.ensures _
    c.in_ok-counts.ensures c.spare_at_head.result c.spare_at_head.ensures c.if-spare_at_head-ne0.true

pub returns : goal.returns
returns c =
    sound c.args.timetable.now (omega arith) c.count_at_head-count.result c.count_at_head-count.ensures _
    c.in_ok-counts.ensures c.spare_at_head.result c.spare_at_head.ensures (omega arith)
