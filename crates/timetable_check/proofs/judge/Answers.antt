-- `timetable_check::judge` meets its contract: what the replay told, and then the lowest misplaced rack. Assumes nothing.
use mathlib.Core.Path.{ap₂, ◌∙◌}
use Rattle.answers.specs.declared.Fault.{Fault}
use Rattle.answers.proofs.AnswerLaws.{handed_on}
use Rattle.tables.proofs.EndingLaws.{judge_stopped, judge_misplaced, judge_settled}
use Rattle.trains.specs.StepsOn.{replay_steps_on}
use Rattle.timetable.specs.Timetable.{steps_of}
use Rattle.timetable.specs.Checking.{told}
use Rattle.timetable_check.specs.Judging.{table_answer}
use Rattle.timetable_check.proofs.judge.Goals as goal

pub returns-in_err-replay : goal.returns-in_err-replay
unfolding table_answer
returns-in_err-replay c =
    let steps = steps_of c.args.timetable.now in
    handed_on told c.from_residual.result _ c.from_residual.ensures.1
    (judge_stopped Fault.TimetableGoal _ (told c.args.counts) c.args.m _ _ _
    (c.in_err-replay.ensures ∙ ap₂ (λ g h. replay_steps_on g h steps) c.mark_edges.ensures c.place_racks.ensures))

pub returns-in-Some : goal.returns-in-Some
unfolding table_answer
returns-in-Some c =
    let steps = steps_of c.args.timetable.now in
    judge_misplaced Fault.TimetableGoal _ (told c.args.counts) c.args.m _
    (c.in_ok-replay.ensures ∙ ap₂ (λ g h. replay_steps_on g h steps) c.mark_edges.ensures c.place_racks.ensures) _ c.in-Some.ensures

pub returns : goal.returns
unfolding table_answer
returns c =
    let steps = steps_of c.args.timetable.now in
    judge_settled Fault.TimetableGoal _ (told c.args.counts) c.args.m _
    (c.in_ok-replay.ensures ∙ ap₂ (λ g h. replay_steps_on g h steps) c.mark_edges.ensures c.place_racks.ensures) c.in_default.ensures
