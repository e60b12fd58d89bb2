-- Which plan the planner leaves: the proved method's, or one that a search found and that is better by the stopwatch. What the search
-- yields is not trusted: it counts for a plan only where the plan checker accepts it.
--
--     Better o p q        for the order o the plan q has a timetable of fewer steps than the plan p, or of as many and fewer moves
--     Improves o p q      q may stand in the place of p: it is better, of edition two, the plan checker accepts it for o, and it has no
--                         more moves than demand 3 allows
--     Chosen o B a B'     for the order o and the buffer B the answer a and the buffer B' afterwards are what the planner may give: the
--                         plan that the proved method made, or one that improves on it
-- Assumes nothing.
use Rattle.std.specs.Prelude.{ℕ, ◌*◌, ◌≤◌, ◌<◌, ◌≡◌, true, List, [], ◌∷◌}
use Rattle.answers.specs.Answer.{Answer, accepted}
use Rattle.field.specs.Writing.{written}
use Rattle.order.specs.Order.{position_count}
use Rattle.plan.specs.Plan.{named, move_count, plan_answer}
use Rattle.scheduling.specs.Maker.{made_count}
use Rattle.planner.specs.Planner.{PlanMade}

-- a floor is timed by the steps of the timetable that the making rule makes of the plan, then by the moves
pub data Better (o p q : List ℕ) : Type 0 where
  fewer_steps : made_count o q < made_count o p → Better o p q
  fewer_moves : made_count o q ≡ made_count o p → move_count q < move_count p → Better o p q

-- Demand 3: "a plan of at most 8 × n × n × n one-rack moves"; request (h): "The planner writes edition two"
pub record Improves (o p q : List ℕ) : Type 0 where
  pub edition_two : named q ≡ true
  pub checked : plan_answer o q ≡ accepted (move_count q ∷ [])
  pub few : move_count q ≤ 8 * (position_count o * (position_count o * position_count o))
  pub better : Better o p q

pub data Chosen (o B : List ℕ) : Answer → List ℕ → Type 0 where
  as_planned : {a : Answer} {B' : List ℕ} → PlanMade o B a B' → Chosen o B a B'
  improved : (p q : List ℕ) → PlanMade o B (accepted (move_count p ∷ [])) (written B 0 p) → Improves o p q
      → PlanMade o B (accepted (move_count q ∷ [])) (written B 0 q) → Chosen o B (accepted (move_count q ∷ [])) (written B 0 q)
