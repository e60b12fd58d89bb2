-- The result of reading a timetable, or of checking one, as document 01's answer.
--
--     told c                    the counts that are told
--     answer_of_check r         the result r on a timetable, on its structure alone or for an order, as an answer
-- Assumes nothing.
use Rattle.std.specs.Prelude.{ℕ, List, [], ◌∷◌, Result}
use Rattle.answers.specs.Answer.{Answer, answer_by}
use Rattle.answers.specs.declared.Refusal.{Refusal}
use Rattle.timetable.specs.declared.Counts.{Counts}

abbrev pub told : Counts → List ℕ
told c = c.steps ∷ c.moves ∷ []

abbrev pub answer_of_check : Result Counts Refusal → Answer
answer_of_check = answer_by told
