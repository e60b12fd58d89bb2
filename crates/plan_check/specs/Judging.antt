-- The plan checker's answer above the reading, on tables, and its verdict on a move as document 01's number.
--
--     table_answer s e m t named k   32 to 36, where s is the order from its fourth byte on and t the plan from its fourth byte on, in the
--                                   edition whose moves name their racks or in the other
--     fault_of v                     the number of a move that is not legal or names another rack, 0 for none
-- Assumes nothing.
use Rattle.std.specs.Prelude.{ℕ, ◌+◌, ◌*◌, Bool, List, [], ◌∷◌, replicate, Result, Ok, Err}
use Rattle.answers.specs.Answer.{Answer, number_of}
use Rattle.field.specs.Bits.{pairs, positions}
use Rattle.field.specs.Listed.{listed_moves}
use Rattle.order.specs.Tables.{marked, placed}
use Rattle.tables.specs.Tables.{judged_on}
use Rattle.tables.specs.MovesOn.{replay_on}
use Rattle.answers.specs.declared.Fault.{Fault}

unfoldable pub table_answer : List ℕ → ℕ → ℕ → List ℕ → Bool → ℕ → Answer
table_answer s e m t named k =
    judged_on 33 (positions s (6 * (2 * e + m)) m) (k ∷ [])
    (replay_on (marked (replicate 4096 0) (pairs s 0 e)) (placed (replicate 64 0) 1 (positions s (6 * (2 * e)) m))
    (listed_moves named t 0 k))

abbrev pub fault_of : {X : Type 0} → Result X Fault → ℕ
fault_of (Ok _) = 0
fault_of (Err f) = number_of f
