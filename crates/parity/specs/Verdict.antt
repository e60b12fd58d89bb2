-- The verdict as an answer.
--
--     answer_of v    1 for impossible, 0 for not judged, and the number and place of a refusal
-- Assumes nothing.
use Rattle.std.specs.Prelude.{ℕ, List, [], ◌∷◌, Result}
use Rattle.answers.specs.Answer.{Answer, answer_by}
use Rattle.answers.specs.declared.Refusal.{Refusal}
use Rattle.parity.specs.declared.Hope.{Hope}
use Rattle.parity.specs.declared.Hope.TheVariants.{Impossible, NotJudged}

abbrev pub told : Hope → List ℕ
told Impossible = 1 ∷ []
told NotJudged = 0 ∷ []

abbrev pub answer_of : Result Hope Refusal → Answer
answer_of = answer_by told
