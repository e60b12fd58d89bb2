-- A step turned round, from request (k): "the lent step's moves, each turned round and then put in ascending order".
--
--     turned m           the move m turned round: from the position entered to the position left
--     turned_step ms      the moves ms, each turned round, ascending by the position that is then left
-- Assumes nothing.
use Rattle.std.specs.Prelude.{ℕ, List, map}
use Rattle.motion.specs.StepOf.{sort}

unfoldable pub turned : ℕ × ℕ → ℕ × ℕ
turned m = (m.1, m.0)

unfoldable pub turned_step : List (ℕ × ℕ) → List (ℕ × ℕ)
turned_step ms = sort (map turned ms)
