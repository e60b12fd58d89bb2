-- The converter's answer and the buffer afterwards, from request (h): "A converter, given the order, writes the other edition". "It
-- refuses as the plan checker does." "38 the converter's buffer is too short, last."
--
--     converted_of o p          the plan p for the order o in the other edition
--     converter_answer o p n    the converter's answer for the order o, the plan p and a buffer of n bytes
--     buffer_after o p B        the buffer B afterwards
--     answer_of v               the converter's verdict v as an answer
-- Assumes nothing.
use Rattle.std.specs.Prelude.{ℕ, not, List, [], ◌∷◌, length, ltb, Result}
use Rattle.answers.specs.Answer.{Answer, accepted, refuse, pass_up, the_count, answer_by}
use Rattle.field.specs.Writing.{left_by}
use Rattle.order.specs.Order.{starts_of}
use Rattle.plan.specs.Plan.{named, move_count, plan_moves, plan_record, plan_answer}
use Rattle.answers.specs.declared.Refusal.{Refusal}

unfoldable pub converted_of : List ℕ → List ℕ → List ℕ
converted_of o p = plan_record (not (named p)) (starts_of o) (plan_moves p)

-- Accepted, the count is that of the moves.
unfoldable pub converter_answer : List ℕ → List ℕ → ℕ → Answer
converter_answer o p n =
    pass_up (plan_answer o p)
    (refuse (ltb n (length (converted_of o p))) 38 0
    (accepted (move_count p ∷ [])))

-- the record at the front of the buffer, "and the bytes after the record are unchanged"
unfoldable pub buffer_after : List ℕ → List ℕ → List ℕ → List ℕ
buffer_after o p B = left_by (converter_answer o p (length B)) (converted_of o p) B

abbrev pub answer_of : Result ℕ Refusal → Answer
answer_of = answer_by the_count
