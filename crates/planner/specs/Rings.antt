-- Ring floors: request (d): "A ring order with a vacancy is turned down for its order of racks precisely when no plan for it exists."
--
--     OnRingFloor o      the order o is well formed, its floor is a ring, and a position is vacant
--     TurnedDown o       24 is the answer exactly where there is no plan (crates/plan, Solutions)
-- Assumes nothing.
use Rattle.std.specs.Prelude.{ℕ, ◌+◌, ◌≤◌, ◌≡◌, List, ◌↔◌, length}
use Rattle.answers.specs.Answer.{refused}
use Rattle.order.specs.Order.{position_count, rack_count, floor_of, WellFormed}
use Rattle.plan_check.specs.Solutions.{NoPlan}
use Rattle.graph.specs.Connected.{Ring}
use Rattle.floor.specs.FloorAnswer.{Joins, floor_answer}

pub record OnRingFloor (o : List ℕ) : Type 0 where
  pub right : WellFormed o
  pub ring : Ring (floor_of o).positions (Joins (floor_of o)) (length (floor_of o).edges)
  pub vacancy : rack_count o + 1 ≤ position_count o

abbrev pub TurnedDown : List ℕ → Type 0
TurnedDown o = (floor_answer o ≡ refused 24 0) ↔ NoPlan o
