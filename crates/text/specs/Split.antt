-- Where the order ends and the plan begins in a program's input, from document 01, "Programs": "The order ends where its counts say, and
-- all the rest is the plan."
--
--     order_end s      the length of the order at the front of the input s
--     order_part s     the order
--     plan_part s      the plan
-- Assumes nothing.
use Rattle.std.specs.Prelude.{ℕ, min, List, length, take, drop}
use Rattle.order.specs.RecordLength.{order_length}

-- An input that is shorter than its counts say, or than the 3 bytes that hold them, is an order and no plan, so that
-- 10 applies and never 30.
unfoldable pub order_end : List ℕ → ℕ
order_end s = min (order_length s) (length s)

unfoldable pub order_part : List ℕ → List ℕ
order_part s = take (order_end s) s

unfoldable pub plan_part : List ℕ → List ℕ
plan_part s = drop (order_end s) s
