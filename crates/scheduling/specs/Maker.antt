-- The timetable maker's answer and the buffer afterwards, from document 01, "Making the timetable" and "Returned numbers".
--
--     made_of o p               the steps that the making rule makes of the plan p for the order o
--     made_count o p            how many they are
--     steps_answer o p          that count as an answer, behind the plan checker's refusals
--     maker_answer o p n        the timetable maker's answer for the order o, the plan p and a buffer of n bytes
--     buffer_after o p B        the buffer B afterwards
--     answer_of v               the maker's verdict v as an answer
--     Timetabled o p           the made record is at most 3 × k + 3 bytes long, and the timetable checker accepts it,
--                              with s steps and k moves
-- Assumes nothing.
use Rattle.std.specs.Prelude.{ℕ, ◌+◌, ◌*◌, ◌≤◌, List, [], ◌∷◌, length, ltb, ◌≡◌, Result}
use Rattle.answers.specs.Answer.{Answer, accepted, refuse, pass_up, the_count, answer_by}
use Rattle.field.specs.Writing.{left_by}
use Rattle.order.specs.Order.{starts_of}
use Rattle.plan.specs.Plan.{move_count, plan_moves, plan_answer}
use Rattle.timetable.specs.Timetable.{timetable_record, timetable_answer}
use Rattle.scheduling.specs.Making.{timed, greatest, made_steps}
use Rattle.answers.specs.declared.Refusal.{Refusal}

unfoldable pub made_of : List ℕ → List ℕ → List (List (ℕ × ℕ))
made_of o p = made_steps (starts_of o) (plan_moves p)

-- "s, the greatest step so given, or 0 with no moves"
abbrev pub made_count : List ℕ → List ℕ → ℕ
made_count o p = greatest (timed (starts_of o) [] (plan_moves p))

-- "A reader that was given a refusal by a lower one stops there and passes the same refusal up."
unfoldable pub steps_answer : List ℕ → List ℕ → Answer
steps_answer o p = pass_up (plan_answer o p) (accepted (made_count o p ∷ []))

-- 44: "timetable buffer shorter than 3 × k + 3 bytes". "The answer is s, the greatest step so given, or 0 with no moves."
unfoldable pub maker_answer : List ℕ → List ℕ → ℕ → Answer
maker_answer o p n =
    pass_up (plan_answer o p)
    (refuse (ltb n (3 * move_count p + 3)) 44 0
    (accepted (made_count o p ∷ [])))

-- "The record … is written at the front of the buffer; the rest is unchanged."
unfoldable pub buffer_after : List ℕ → List ℕ → List ℕ → List ℕ
buffer_after o p B = left_by (maker_answer o p (length B)) (timetable_record (made_of o p)) B

abbrev pub answer_of : Result ℕ Refusal → Answer
answer_of = answer_by the_count

-- "For every accepted plan the made record is at most 3 × k + 3 bytes long, and the timetable checker accepts it with
-- exactly s steps and k moves."
pub record Timetabled (o p : List ℕ) : Type 0 where
  pub short : length (timetable_record (made_of o p)) ≤ 3 * move_count p + 3
  pub checked : timetable_answer o (timetable_record (made_of o p))
      ≡ accepted (made_count o p ∷ move_count p ∷ [])
