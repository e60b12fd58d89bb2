-- A short order written out as a full one. Request (a): "It is written out as a full order". "Turned away: 50 the short order's length or a
-- spare or pad bit is wrong; 51 the model is unknown; 52 the order buffer is shorter than the full record; in that order, with 14 judged
-- between 51 and 52."
--
--     full_order s           the order that the short order s stands for: the model's floor, and the same starts and goals
--     expanded s            its record
--     expand_answer s n      the answer for s and a buffer of n bytes: 50, 51, 14, 52, else accepted, with the record's length
--     buffer_after s B       the buffer B afterwards
--     answer_of v            the verdict v as an answer
-- Assumes nothing.
use Rattle.std.specs.Prelude.{ℕ, List, [], ◌∷◌, length, ltb, Result}
use Rattle.answers.specs.Answer.{Answer, accepted, refuse, the_count, answer_by}
use Rattle.field.specs.Writing.{left_by}
use Rattle.order.specs.Order.{Order, order_record, wrong_racks}
use Rattle.models.specs.Grid.{unknown_model, model_floor}
use Rattle.answers.specs.declared.Refusal.{Refusal}
use Rattle.models.specs.ShortOrder.{model_code, short_starts, short_goals, wrong_short}

unfoldable pub full_order : List ℕ → Order
full_order s = record { floor = model_floor (model_code s); starts = short_starts s; goals = short_goals s }

unfoldable pub expanded : List ℕ → List ℕ
expanded s = order_record (full_order s)

-- a stated order, which overrides that of the numbers
unfoldable pub expand_answer : List ℕ → ℕ → Answer
expand_answer s n =
    refuse (wrong_short s) 50 0
    (refuse (unknown_model (model_code s)) 51 0
    (refuse (wrong_racks (full_order s)) 14 0
    (refuse (ltb n (length (expanded s))) 52 0
    (accepted (length (expanded s) ∷ [])))))

unfoldable pub buffer_after : List ℕ → List ℕ → List ℕ
buffer_after s B = left_by (expand_answer s (length B)) (expanded s) B

abbrev pub answer_of : Result ℕ Refusal → Answer
answer_of = answer_by the_count
