-- The timetable checker's answer above the reading, on tables.
--
--     table_answer s e m t v   42 and 43, else accepted with the counts v, where s is the order from its fourth byte on and t the timetable
-- Assumes nothing.
use Rattle.std.specs.Prelude.{ℕ, ◌+◌, ◌*◌, List, replicate}
use Rattle.answers.specs.Answer.{Answer}
use Rattle.field.specs.Bits.{pairs, positions}
use Rattle.order.specs.Tables.{marked, placed}
use Rattle.tables.specs.Tables.{judged_on}
use Rattle.trains.specs.StepsOn.{replay_steps_on}
use Rattle.timetable.specs.Timetable.{steps_of}

unfoldable pub table_answer : List ℕ → ℕ → ℕ → List ℕ → List ℕ → Answer
table_answer s e m t v =
    judged_on 43 (positions s (6 * (2 * e + m)) m) v
    (replay_steps_on (marked (replicate 4096 0) (pairs s 0 e)) (placed (replicate 64 0) 1 (positions s (6 * (2 * e)) m)) (steps_of t))
