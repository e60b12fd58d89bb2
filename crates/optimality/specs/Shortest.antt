-- Request (g): "Show that no legal timetable in which each rack keeps its route, and each position its sequence of visiting racks, has
-- fewer steps than the one made. Waiting steps count."
--
--     Shortest F A ms        of the plan ms from the arrangement A no legal timetable that keeps routes and visits has fewer steps than the
--                            one made, and the one made is such a timetable
--     KeepsRecord o p t      the timetable t keeps the routes and visits of the plan p for the order o
--     ShortestRecord o p s   the same over records: s steps, which the maker answered of the plan p for the order o, are the fewest with
--                            which the timetable checker accepts a timetable that keeps routes and visits
-- Assumes nothing.
use Rattle.std.specs.Prelude.{ℕ, ◌≤◌, ◌≡◌, List, [], ◌∷◌, length}
use Rattle.answers.specs.Answer.{accepted}
use Rattle.order.specs.Floor.{Floor}
use Rattle.order.specs.Order.{floor_of, starts_of}
use Rattle.motion.specs.Arrangement.{Arrangement}
use Rattle.plan.specs.Plan.{move_count, plan_moves}
use Rattle.timetable.specs.Timetable.{timetable_record, steps_of, timetable_answer}
use Rattle.scheduling.specs.Making.{made_steps}
use Rattle.scheduling.specs.Maker.{made_of}
use Rattle.optimality.specs.Routes.{Keeps, LegalInTurn}

pub record Shortest (F : Floor) (A : Arrangement) (ms : List (ℕ × ℕ)) : Type 0 where
  -- the least: "Waiting steps count", since a step without moves is one of the list
  pub least : (steps : List (List (ℕ × ℕ))) → LegalInTurn F A steps → Keeps F A ms steps → length (made_steps A ms) ≤ length steps
  -- and attained
  pub legal : LegalInTurn F A (made_steps A ms)
  pub keeps : Keeps F A ms (made_steps A ms)

abbrev pub KeepsRecord : List ℕ → List ℕ → List ℕ → Type 0
KeepsRecord o p t = Keeps (floor_of o) (starts_of o) (plan_moves p) (steps_of t)

pub record ShortestRecord (o p : List ℕ) (s : ℕ) : Type 0 where
  pub least : (t : List ℕ) (i k : ℕ) → timetable_answer o t ≡ accepted (i ∷ k ∷ []) → KeepsRecord o p t → s ≤ i
  pub checked : timetable_answer o (timetable_record (made_of o p)) ≡ accepted (s ∷ move_count p ∷ [])
  pub keeps : KeepsRecord o p (timetable_record (made_of o p))
