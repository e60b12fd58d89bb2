-- The order reader's result as document 01's answer.
--
--     told c         the counts that are told
--     answer_of v    the number and place of a refusal, the counts of an accepted order
-- Assumes nothing.
use Rattle.std.specs.Prelude.{ℕ, List, [], ◌∷◌, Result}
use Rattle.answers.specs.Answer.{Answer, answer_by}
use Rattle.answers.specs.declared.Refusal.{Refusal}
use Rattle.order.specs.declared.Counts.{Counts}

abbrev pub told : Counts → List ℕ
told c = c.positions ∷ c.edges ∷ c.racks ∷ []

abbrev pub answer_of : Result Counts Refusal → Answer
answer_of = answer_by told
