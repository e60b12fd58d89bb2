-- The result of reading a plan, or of checking one, as document 01's answer.
--
--     answer_of r    the number and place of a refusal, the count of moves of an accepted plan
-- Assumes nothing.
use Rattle.std.specs.Prelude.{ℕ, Result}
use Rattle.answers.specs.Answer.{Answer, the_count, answer_by}
use Rattle.answers.specs.declared.Refusal.{Refusal}

abbrev pub answer_of : Result ℕ Refusal → Answer
answer_of = answer_by the_count
