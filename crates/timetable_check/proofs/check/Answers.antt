-- `timetable_check::check` meets its contract: a refusal of the order reader or of the reading is handed up, and `Layers` has the judgement
-- above their acceptance. Assumes nothing.
use mathlib.Core.Path.{◌∙◌}
use Rattle.tables.proofs.AcceptedLaws.{order_accepted}
use Rattle.tables.proofs.Layers.{order_refused, record_refused}
use Rattle.timetable.specs.Reading.{reading_answer}
use Rattle.timetable.specs.Checking.{told}
use Rattle.timetable.proofs.ReadingLaws.{timetable_answer_is}
use Rattle.timetable_check.proofs.Layers.{judgement, reading_told, answer_is}
use Rattle.timetable_check.proofs.check.Goals as goal

pub returns-in_err-read : goal.returns-in_err-read
returns-in_err-read c =
    order_refused c.args.order.now (reading_answer c.args.timetable.now) (judgement c.args.order.now c.args.timetable.now)
    (timetable_answer_is c.args.order.now c.args.timetable.now) told c.from_residual.result _ c.from_residual.ensures.1
    c.in_err-read.ensures

pub returns-in_err-counts : goal.returns-in_err-counts
returns-in_err-counts c =
    record_refused c.args.order.now (reading_answer c.args.timetable.now) (judgement c.args.order.now c.args.timetable.now)
    (timetable_answer_is c.args.order.now c.args.timetable.now) (order_accepted c.in_ok-read.ensures)
    told c.from_residual-in_err-counts.result _ c.from_residual-in_err-counts.ensures.1 c.in_err-counts.ensures

pub slice_bounds-judge-count : goal.slice_bounds-judge-count
slice_bounds-judge-count c = (order_accepted c.in_ok-read.ensures).head_there

pub slice_bounds-judge-start : goal.slice_bounds-judge-start
slice_bounds-judge-start c = (order_accepted c.in_ok-read.ensures).head_there

pub judge-requires : goal.judge-requires
judge-requires c =
    let gave = (order_accepted c.in_ok-read.ensures) in
    let read = reading_told c.args.timetable.now _ _ c.in_ok-counts.ensures in
    record {
      e_bound = (gave.few_edges, gave.few_racks, gave.room);
      timetable_value = (read.length_right, read.steps_are, read.few_steps);
    }

pub returns : goal.returns
returns c =
    c.judge.ensures ∙ answer_is (order_accepted c.in_ok-read.ensures) (reading_told c.args.timetable.now _ _ c.in_ok-counts.ensures)
