-- The timetable checker accepts exactly the solutions of Surynek's Definition 2, as document 01 reads it (motion's ParallelPathFinding),
-- whose trains have at most eight racks (motion's TrainCap): demand 2 for timetables. "Acceptance is compared with the published definition
-- plus this cap".
--
--     SolutionOf o ζ S          the arrangements S solve the task of the order o in ζ steps, by trains of at most eight racks
--     AcceptedTimetable o s v   the byte string s is the record of a solution's steps, and v the counts of its steps and moves: so a
--                               solution has one record, which the timetable checker accepts
-- Assumes nothing.
use Rattle.std.specs.Prelude.{ℕ, ◌^◌, ◌<◌, List, [], ◌∷◌, ◌≡◌}
use Rattle.order.specs.Order.{rack_count, floor_of, starts_of, goals_of, WellFormed}
use Rattle.motion.specs.Arrangement.{Arrangement}
use Rattle.motion.specs.TrainCap.{CappedSolution}
use Rattle.motion.specs.StepSolutions.{steps_between}
use Rattle.timetable.specs.Timetable.{timetable_record, move_total}

abbrev pub SolutionOf : List ℕ → ℕ → List Arrangement → Type 0
SolutionOf o ζ S = CappedSolution (floor_of o) (rack_count o) (starts_of o) (goals_of o) ζ S

-- a count of steps has 22 bits
pub record AcceptedTimetable (o s v : List ℕ) : Type 0 where
  pub order_right : WellFormed o
  pub steps : ℕ
  pub few : steps < 2 ^ 22
  pub arrangements : List Arrangement
  pub solution : SolutionOf o steps arrangements
  pub is : s ≡ timetable_record (steps_between arrangements)
  pub counted : v ≡ steps ∷ move_total (steps_between arrangements) ∷ []
