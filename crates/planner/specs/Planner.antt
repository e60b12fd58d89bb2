-- The planner's answer, and the buffer afterwards: document 01, "Breakdown and planning" and "Returned numbers", and demand 3.
--
--     refusals o b         the planner's refusals of the order o and a buffer of b bytes; accepted where none applies
--     PlanMade o B a B'    for the order o and the buffer B the planner may answer a and leave B' behind
--     answer_of v           the planner's verdict v as an answer
-- Assumes nothing.
use Rattle.std.specs.Prelude.{ℕ, ◌+◌, ◌*◌, ◌≡◌, true, List, [], ◌∷◌, length, ltb, Result}
use Rattle.answers.specs.Answer.{Answer, accepted, refused, refuse, pass_up, the_count, answer_by}
use Rattle.field.specs.Writing.{written}
use Rattle.order.specs.Order.{position_count, starts_of}
use Rattle.plan.specs.Plan.{plan_record}
use Rattle.floor.specs.FloorAnswer.{floor_answer}
use Rattle.method.specs.Moves.{Solves}
use Rattle.answers.specs.declared.Refusal.{Refusal}

-- "planner 10 to 14 and 20 to 23"; 24 and then 26 come before 23, and are the floor judge's; 23: "plan buffer shorter than" the size of
-- request (h): the planner "needs 18 × n × n × n + 3 bytes, and 23 uses that size"
unfoldable pub refusals : List ℕ → ℕ → Answer
refusals o b =
    let n = position_count o in
    pass_up (floor_answer o)
    (refuse (ltb b (18 * (n * (n * n)) + 3)) 23 0
    (accepted []))

-- "No lent byte changes on a refusal." "After acceptance the buffer holds the plan record first, other bytes unchanged, and the answer
-- gives the count of its moves." Request (h): "The planner writes edition two". Which moves is left free; `Solves` is what holds of them.
pub data PlanMade (o B : List ℕ) : Answer → List ℕ → Type 0 where
  turned_down : {number place : ℕ} → refusals o (length B) ≡ refused number place → PlanMade o B (refused number place) B
  made : (ms : List (ℕ × ℕ)) → refusals o (length B) ≡ accepted [] → Solves o (position_count o) ms
      → PlanMade o B (accepted (length ms ∷ [])) (written B 0 (plan_record true (starts_of o) ms))

abbrev pub answer_of : Result ℕ Refusal → Answer
answer_of = answer_by the_count
