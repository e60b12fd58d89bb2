-- What is judged before a call's own numbers: who calls, and what is lent.
--
--     gate_answer a o t    60 where the role is not allowed (a), then the checker's numbers; accepted, the count is that of the timetable's
--                         steps
-- Assumes nothing.
use Rattle.std.specs.Prelude.{ℕ, Bool, not, List, [], ◌∷◌}
use Rattle.answers.specs.Answer.{Answer, accepted, refuse, pass_up}
use Rattle.timetable.specs.Timetable.{step_count, timetable_answer}

unfoldable pub gate_answer : Bool → List ℕ → List ℕ → Answer
gate_answer a o t = refuse (not a) 60 0 (pass_up (timetable_answer o t) (accepted (step_count t ∷ [])))
