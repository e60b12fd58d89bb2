-- `controller::wichteab_dearest_carry` meets its contract: the verdict's answer, packed, and the buffer as the dearest carry leaves it.
-- Assumes nothing.
use mathlib.Core.Path.{ap, sym, ◌∙◌}
use Rattle.carry.specs.CarryAnswer.{answer_of}
use Rattle.packing.specs.Packed.{packed, start_goal_moves}
use Rattle.controller.proofs.AnswerSizes.{carry_sized}
use Rattle.packing.proofs.PackedLaws.{room_of, tells, start-goal-moves-pack}
use Rattle.controller.proofs.wichteab_dearest_carry.Goals as goal

pub start_goal_moves-requires : goal.start_goal_moves-requires
start_goal_moves-requires c =
    room_of start-goal-moves-pack (carry_sized _ _) (ap answer_of (sym c.in-Ok.is) ∙ c.make.ensures.result_value)

pub returns-in-Ok : goal.returns-in-Ok
returns-in-Ok c = record {
  tells = tells start-goal-moves-pack (carry_sized _ _)
      (c.start_goal_moves.ensures ∙ ap (packed start_goal_moves) (ap answer_of (sym c.in-Ok.is) ∙ c.make.ensures.result_value));
  buffer_after = c.make.ensures.buffer_after;
}

pub returns-in-Err : goal.returns-in-Err
returns-in-Err c = record {
  tells = tells start-goal-moves-pack (carry_sized _ _)
      (c.refusal.ensures ∙ ap (packed start_goal_moves) (ap answer_of (sym c.in-Err.is) ∙ c.make.ensures.result_value));
  buffer_after = c.make.ensures.buffer_after;
}
