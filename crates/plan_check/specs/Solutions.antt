-- The plan checker accepts exactly the solutions of Surynek's Definition 1, as document 01 reads it (motion's Pebble): demand 2 for plans.
-- Request (h): "In demand 2, an edition-two plan with a wrong rack is no solution."
--
--     SolutionOf o ξ S     the arrangements S solve the task of the order o in ξ moves
--     NoPlan o             no list of moves, however long, is legal move by move and leads from the starts to the goals
--     AcceptedPlan o p v   the byte string p is the record, in one of the editions, of a solution's moves, and v the count of them: so a
--                          solution has one record in each edition, in the one each move with the rack that it moves, and the plan checker
--                          accepts both
-- Assumes nothing.
use Rattle.std.specs.Prelude.{ℕ, ◌^◌, ◌<◌, Bool, List, [], ◌∷◌, ◌≡◌}
use Rattle.order.specs.Order.{rack_count, floor_of, starts_of, goals_of, WellFormed}
use Rattle.motion.specs.Arrangement.{Arrangement}
use Rattle.motion.specs.Pebble.{Solution}
use Rattle.motion.specs.Replay.{ended, replay_moves}
use Rattle.motion.specs.StepSolutions.{moves_between}
use Rattle.plan.specs.Plan.{plan_record}

abbrev pub SolutionOf : List ℕ → ℕ → List Arrangement → Type 0
SolutionOf o ξ S = Solution (floor_of o) (rack_count o) (starts_of o) (goals_of o) ξ S

abbrev pub NoPlan : List ℕ → Type 0
NoPlan o = (ms : List (ℕ × ℕ)) → replay_moves (floor_of o) (starts_of o) ms ≡ ended (goals_of o) → ⊥

-- a count of moves has 22 bits
pub record AcceptedPlan (o p v : List ℕ) : Type 0 where
  pub order_right : WellFormed o
  pub moves : ℕ
  pub few : moves < 2 ^ 22
  pub arrangements : List Arrangement
  pub solution : SolutionOf o moves arrangements
  pub edition : Bool
  pub is : p ≡ plan_record edition (starts_of o) (moves_between arrangements)
  pub counted : v ≡ moves ∷ []
