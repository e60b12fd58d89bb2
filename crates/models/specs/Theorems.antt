-- What is proved of floors by model, as a whole.
--
--     HasModel o k          the order o, whoever wrote it, is well formed and its floor joins the positions that model k joins
--     NeverTurned o         the planner never answers 21, 22, 24 or 26 for it, wherever
--     WrittenOut s          what the short order s is written out as: a well-formed order on its model's floor, and reading it gives that
--                           floor, the starts and the goals back
--     ShortChoice o         what is asked of a short order: a known model, and starts and goals that 14 passes
-- Assumes nothing.
use Rattle.std.specs.Prelude.{ℕ, ◌≡◌, false, List, length}
use Rattle.answers.specs.Answer.{refused}
use Rattle.order.specs.Floor.{joined}
use Rattle.order.specs.Order.{floor_of, order_of, wrong_places, WellFormed}
use Rattle.floor.specs.FloorAnswer.{floor_answer}
use Rattle.models.specs.Grid.{unknown_model, model_floor}
use Rattle.models.specs.ShortOrder.{ShortOrder, model_code}
use Rattle.models.specs.Expansion.{full_order, expanded}

pub record HasModel (o : List ℕ) (k : ℕ) : Type 0 where
  pub right : WellFormed o
  pub known : unknown_model k ≡ false
  pub positions : (floor_of o).positions ≡ (model_floor k).positions
  pub edges : (a b : ℕ) → joined (floor_of o) a b ≡ joined (model_floor k) a b

-- "a full order on such a floor never meets 21 or 22"; nor does it meet 24, which rings alone do, or 26: "Racks have four sides"
pub record NeverTurned (o : List ℕ) : Type 0 where
  pub not_21 : (place : ℕ) → floor_answer o ≡ refused 21 place → ⊥
  pub not_22 : (place : ℕ) → floor_answer o ≡ refused 22 place → ⊥
  pub not_24 : (place : ℕ) → floor_answer o ≡ refused 24 place → ⊥
  pub not_26 : (place : ℕ) → floor_answer o ≡ refused 26 place → ⊥

-- "It is written out as a full order"
pub record WrittenOut (s : List ℕ) : Type 0 where
  pub right : WellFormed (expanded s)
  pub back : order_of (expanded s) ≡ full_order s
  pub on_model : HasModel (expanded s) (model_code s)

pub record ShortChoice (o : ShortOrder) : Type 0 where
  pub known : unknown_model o.model ≡ false
  pub a_goal_each : length o.goals ≡ length o.starts
  pub starts_right : wrong_places (model_floor o.model).positions o.starts ≡ false
  pub goals_right : wrong_places (model_floor o.model).positions o.goals ≡ false
