-- The floor judge's verdict as document 01's answer, and what it hands on.
--
--     answer_of v    the number and place of a refusal; an acceptance has no counts
--     handed_on v    the same with the counts that an acceptance hands on to the planner
-- Assumes nothing.
use Rattle.std.specs.Prelude.{[], Result}
use Rattle.answers.specs.Answer.{Answer, answer_by}
use Rattle.answers.specs.declared.Refusal.{Refusal}
use Rattle.order.specs.declared.Counts.{Counts}
use Rattle.order.specs.Verdict.{answer_of as order_answer_of}

abbrev pub answer_of : Result Counts Refusal → Answer
answer_of = answer_by (λ _. [])

abbrev pub handed_on : Result Counts Refusal → Answer
handed_on = order_answer_of
