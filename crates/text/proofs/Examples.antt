-- Document 01's example and the edges of the text, by computation.
--
--     example             "steps 2 moves 4", then the steps of the first case, byte for byte
--     no_steps            a timetable of no steps
--     empty_step          a step without moves is its number alone
--     room_example        the text of the first case's timetable has room in 40 bytes, so that it can be written
-- Assumes nothing.
use mathlib.Core.Path.{◌≡◌, refl}
use mathlib.Core.List.{[], ◌∷◌}
use lib.ListN.{replicate}
use lib.Dec.{lit≤}
use Rattle.answers.specs.Ascii.{ascii}
use Rattle.field.specs.Writing.{Fits}
use Rattle.timetable.specs.Reading.{WellPacked}
use Rattle.timetable.specs.Timetable.{steps_of, move_total}
use Rattle.timetable_check.proofs.Inhabited.{timetable₁, steps₁, moves₁, packed₁}
use Rattle.writers.specs.Lines.{digits, decimal}
use Rattle.text.specs.Text.{move_text, moves_text, step_line, step_lines, first_line, timetable_text}

-- steps 2 moves 4
-- 1 0>1 3>2
-- 2 1>3 2>0
pub example : timetable_text (((0, 1) ∷ (3, 2) ∷ []) ∷ ((1, 3) ∷ (2, 0) ∷ []) ∷ [])
    ≡ 115 ∷ 116 ∷ 101 ∷ 112 ∷ 115 ∷ 32 ∷ 50 ∷ 32 ∷ 109 ∷ 111 ∷ 118 ∷ 101 ∷ 115 ∷ 32 ∷ 52 ∷ 10
    ∷ 49 ∷ 32 ∷ 48 ∷ 62 ∷ 49 ∷ 32 ∷ 51 ∷ 62 ∷ 50 ∷ 10
    ∷ 50 ∷ 32 ∷ 49 ∷ 62 ∷ 51 ∷ 32 ∷ 50 ∷ 62 ∷ 48 ∷ 10 ∷ []
unfolding timetable_text first_line step_lines step_line moves_text move_text decimal digits move_total ascii
example = refl

-- steps 0 moves 0
pub no_steps : timetable_text [] ≡ 115 ∷ 116 ∷ 101 ∷ 112 ∷ 115 ∷ 32 ∷ 48 ∷ 32 ∷ 109 ∷ 111 ∷ 118 ∷ 101 ∷ 115 ∷ 32 ∷ 48 ∷ 10 ∷ []
unfolding timetable_text first_line step_lines decimal digits move_total ascii
no_steps = refl

pub empty_step : step_line 12 [] ≡ 49 ∷ 50 ∷ 10 ∷ []
unfolding step_line moves_text decimal digits ascii
empty_step = refl

room₁ : Fits (replicate 40 0) 0 (timetable_text steps₁)
unfolding timetable_text first_line step_lines step_line moves_text move_text decimal digits move_total ascii
room₁ = record { room = lit≤ tt }

pub room_example : WellPacked timetable₁ × Fits (replicate 40 0) 0 (timetable_text (steps_of timetable₁))
room_example = (packed₁, rw moves₁ room₁)
