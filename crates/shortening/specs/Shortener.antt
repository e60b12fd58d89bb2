-- The shortener's answer and the second buffer afterwards, from request (e): "The result is written to a second buffer". "Its input is
-- refused as by the plan checker." It reads a plan of either edition and writes the edition that it read.
--
--     shortened_of o p          the moves that the rule makes of the plan p for the order o
--     shortener_answer o p n    the shortener's answer for the order o, the plan p and a second buffer of n bytes
--     buffer_after o p B        the buffer B afterwards
--     answer_of v               the shortener's verdict v as an answer
-- Assumes nothing.
use Rattle.std.specs.Prelude.{ℕ, List, [], ◌∷◌, length, ltb, Result}
use Rattle.answers.specs.Answer.{Answer, accepted, refuse, pass_up, the_count, answer_by}
use Rattle.field.specs.Writing.{left_by}
use Rattle.order.specs.Order.{starts_of}
use Rattle.plan.specs.Plan.{named, plan_moves, plan_record, plan_answer}
use Rattle.shortening.specs.Rule.{shortened}
use Rattle.answers.specs.declared.Refusal.{Refusal}

unfoldable pub shortened_of : List ℕ → List ℕ → List (ℕ × ℕ)
shortened_of o p = shortened (starts_of o) (plan_moves p)

-- 37: "the second buffer is shorter than the plan given; after 33". Accepted, the count is that of the moves written.
unfoldable pub shortener_answer : List ℕ → List ℕ → ℕ → Answer
shortener_answer o p n =
    pass_up (plan_answer o p)
    (refuse (ltb n (length p)) 37 0
    (accepted (length (shortened_of o p) ∷ [])))

-- the record at the front of the buffer, "and the bytes after the record are unchanged"; where the plan's moves name their racks, so do
-- those of the record, each the one that replay from the starts tells
unfoldable pub buffer_after : List ℕ → List ℕ → List ℕ → List ℕ
buffer_after o p B = left_by (shortener_answer o p (length B)) (plan_record (named p) (starts_of o) (shortened_of o p)) B

abbrev pub answer_of : Result ℕ Refusal → Answer
answer_of = answer_by the_count
