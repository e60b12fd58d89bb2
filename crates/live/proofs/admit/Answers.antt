-- `live::admit` meets its contract: 60, and the checker's refusal passed up. Assumes nothing.
use native.Mathlib.Omega.{arith}
use Rattle.answers.specs.Answer.{the_count}
use Rattle.answers.proofs.AnswerLaws.{handed_up}
use Rattle.live.proofs.Gate.{gate_lacking, gate_below, gate_few, gate_passed}
use Rattle.live.proofs.admit.Goals as goal

pub returns-then-not-allowed : goal.returns-then-not-allowed
returns-then-not-allowed c =
    gate_lacking c.args.allowed c.args.order.now c.args.timetable.now c.if-not-allowed.true

pub returns-in_err-counts : goal.returns-in_err-counts
returns-in_err-counts c =
    gate_below c.args.allowed c.args.order.now c.args.timetable.now c.if-not-allowed.false
    (handed_up the_count c.from_residual.result _ c.from_residual.ensures.1 c.in_err-counts.ensures _)

pub overflow_cast-result : goal.overflow_cast-result
overflow_cast-result c =
    let few = gate_few c.args.allowed c.args.order.now c.args.timetable.now _ _ c.in_ok-counts.ensures in
    omega arith

pub returns : goal.returns
returns c =
    gate_passed c.args.allowed c.args.order.now c.args.timetable.now c.if-not-allowed.false _ _ c.in_ok-counts.ensures
