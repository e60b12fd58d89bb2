-- What the timetable program prints, from document 01, "Programs". Text is the list of its bytes in ASCII.
--
--     moves_text ms           the moves ms of a step, each with a space before it
--     step_line i ms          the line of step i with the moves ms
--     step_lines i l          the lines of the steps l, the first of which is step i
--     first_line s m          the line before them: s steps and m moves in all
--     timetable_text l        the steps l as they are printed
-- Assumes nothing.
use Rattle.std.specs.Prelude.{ℕ, ◌+◌, List, [], ◌∷◌, ◌++◌, length}
use Rattle.answers.specs.Ascii.{ascii}
use Rattle.timetable.specs.Timetable.{move_total}
use Rattle.writers.specs.Lines.{decimal}

-- a move as `a>b`, from the position left to the position entered
unfoldable pub move_text : ℕ × ℕ → List ℕ
move_text move = ascii " " ++ decimal move.0 ++ ascii ">" ++ decimal move.1

unfoldable pub moves_text : List (ℕ × ℕ) → List ℕ
moves_text [] = []
moves_text (move ∷ ms) = move_text move ++ moves_text ms

-- "then step number and its moves"
unfoldable pub step_line : ℕ → List (ℕ × ℕ) → List ℕ
step_line i ms = decimal i ++ moves_text ms ++ ascii "\n"

unfoldable pub step_lines : ℕ → List (List (ℕ × ℕ)) → List ℕ
step_lines i [] = []
step_lines i (ms ∷ l) = step_line i ms ++ step_lines (i + 1) l

-- "first steps and moves in all"
unfoldable pub first_line : ℕ → ℕ → List ℕ
first_line steps moves = ascii "steps " ++ decimal steps ++ ascii " moves " ++ decimal moves ++ ascii "\n"

unfoldable pub timetable_text : List (List (ℕ × ℕ)) → List ℕ
timetable_text l = first_line (length l) (move_total l) ++ step_lines 1 l
