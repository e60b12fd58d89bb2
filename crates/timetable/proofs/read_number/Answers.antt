-- `timetable::read_number` meets its contract: a refusal of the reading is handed up, and `StepReader` has 45 above its acceptance.
-- Assumes nothing.
use native.Mathlib.Omega.{arith}
use Rattle.answers.proofs.AnswerLaws.{handed_up}
use Rattle.timetable.specs.Checking.{told}
use Rattle.timetable.specs.Reading.{number_answer}
use Rattle.timetable.proofs.StepReader.{step_zero, step_above, step_there}
use Rattle.timetable.proofs.read_number.Goals as goal

pub returns-in_err-counts : goal.returns-in_err-counts
unfolding number_answer
returns-in_err-counts c = handed_up told c.from_residual.result _ c.from_residual.ensures.1 c.in_err-counts.ensures _

pub returns-then-number-eq0 : goal.returns-then-number-eq0
returns-then-number-eq0 c =
    step_zero c.args.timetable.now c.args.number c.in_ok-counts.counts.steps c.in_ok-counts.counts.moves
    c.in_ok-counts.ensures (omega arith)

pub returns-then-counts-number : goal.returns-then-counts-number
returns-then-counts-number c =
    step_above c.args.timetable.now c.args.number c.in_ok-counts.counts.steps c.in_ok-counts.counts.moves
    c.in_ok-counts.ensures (omega arith)

pub returns : goal.returns
returns c =
    step_there c.args.timetable.now c.args.number c.in_ok-counts.counts.steps c.in_ok-counts.counts.moves
    c.in_ok-counts.ensures c.if-number-eq0.false (omega arith)
