-- What the case book claims of a plan that is made, whichever it is.
--
--     Planned o B a B'    the answer a counts the moves of a plan of edition two, at most 8 × n × n × n, which the plan checker accepts and
--                         which stands at the front of B'; all else is as it was in B
-- Assumes nothing.
use Rattle.std.specs.Prelude.{ℕ, ◌*◌, ◌≤◌, ◌≡◌, true, List, [], ◌∷◌}
use Rattle.answers.specs.Answer.{Answer, accepted}
use Rattle.field.specs.Writing.{written}
use Rattle.order.specs.Order.{position_count}
use Rattle.plan.specs.Plan.{named, plan_answer}

pub record Planned (o B : List ℕ) (a : Answer) (B' : List ℕ) : Type 0 where
  pub plan : List ℕ
  pub moves : ℕ
  pub answered : a ≡ accepted (moves ∷ [])
  pub few : moves ≤ 8 * (position_count o * (position_count o * position_count o))
  pub stands : B' ≡ written B 0 plan
  pub edition_two : named plan ≡ true
  pub checked : plan_answer o plan ≡ accepted (moves ∷ [])
