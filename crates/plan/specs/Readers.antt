-- The answer of the plan's record reader.
--
--     record_answer p   30 and 31, else accepted with the count of moves
-- Assumes nothing.
use Rattle.std.specs.Prelude.{ℕ, List, [], ◌∷◌}
use Rattle.answers.specs.Answer.{Answer, accepted, refuse}
use Rattle.plan.specs.Plan.{move_count, wrong_plan_length, plan_padding_set}

unfoldable pub record_answer : List ℕ → Answer
record_answer p = refuse (wrong_plan_length p) 30 0 (refuse (plan_padding_set p) 31 0 (accepted (move_count p ∷ [])))
