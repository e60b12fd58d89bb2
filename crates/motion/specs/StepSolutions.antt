-- What leads through a sequence of arrangements: the moves or the steps that a record of it lists.
--
--     moves_between S     the moves that lead through the arrangements S, one rack at a time: each the move from one to the next
--     steps_between S     the steps that lead through the arrangements S: each the step from one to the next
-- Assumes nothing.
use Rattle.std.specs.Prelude.{ℕ, List, [], ◌∷◌, ◌++◌}
use Rattle.motion.specs.Arrangement.{Arrangement}
use Rattle.motion.specs.StepOf.{moved, step_of}

unfoldable pub moves_between : List Arrangement → List (ℕ × ℕ)
moves_between [] = []
moves_between (A ∷ []) = []
moves_between (A ∷ B ∷ S) = moved A B ++ moves_between (B ∷ S)

unfoldable pub steps_between : List Arrangement → List (List (ℕ × ℕ))
steps_between [] = []
steps_between (A ∷ []) = []
steps_between (A ∷ B ∷ S) = step_of A B ∷ steps_between (B ∷ S)
