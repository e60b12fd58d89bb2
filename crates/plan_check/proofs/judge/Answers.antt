-- `plan_check::judge` meets its contract: what the replay told, and then the lowest misplaced rack. Assumes nothing.
use mathlib.Core.Path.{ap₂, ◌∙◌}
use mathlib.Core.List.{[], ◌∷◌}
use Rattle.answers.specs.Answer.{the_count}
use Rattle.answers.specs.declared.Fault.{Fault}
use Rattle.answers.proofs.AnswerLaws.{handed_on}
use Rattle.field.specs.Listed.{listed_moves}
use Rattle.tables.specs.MovesOn.{replay_on}
use Rattle.tables.proofs.EndingLaws.{judge_stopped, judge_misplaced, judge_settled}
use Rattle.plan_check.specs.Judging.{table_answer}
use Rattle.plan_check.proofs.judge.Goals as goal

pub returns-in_err-replay : goal.returns-in_err-replay
unfolding table_answer
returns-in_err-replay c =
    let moves = listed_moves c.args.named c.args.plan.now 0 c.args.k in
    handed_on the_count c.from_residual.result _ c.from_residual.ensures.1
    (judge_stopped Fault.PlanGoal _ (c.args.k ∷ []) c.args.m _ _ _
    (c.in_err-replay.ensures ∙ ap₂ (λ g h. replay_on g h moves) c.mark_edges.ensures c.place_racks.ensures))

pub returns-in-Some : goal.returns-in-Some
unfolding table_answer
returns-in-Some c =
    let moves = listed_moves c.args.named c.args.plan.now 0 c.args.k in
    judge_misplaced Fault.PlanGoal _ (c.args.k ∷ []) c.args.m _
    (c.in_ok-replay.ensures ∙ ap₂ (λ g h. replay_on g h moves) c.mark_edges.ensures c.place_racks.ensures) _ c.in-Some.ensures

pub returns : goal.returns
unfolding table_answer
returns c =
    let moves = listed_moves c.args.named c.args.plan.now 0 c.args.k in
    judge_settled Fault.PlanGoal _ (c.args.k ∷ []) c.args.m _
    (c.in_ok-replay.ensures ∙ ap₂ (λ g h. replay_on g h moves) c.mark_edges.ensures c.place_racks.ensures) c.in_default.ensures
