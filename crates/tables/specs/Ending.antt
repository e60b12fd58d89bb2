-- A replay on tables by a loop, whose function says how it ended and leaves the last table behind. What the loops of the plan checker and
-- of the timetable checker have in common.
--
--     end_of r h      how the replay ended: stopped with the fault and the place that r has, or at the table h
-- Assumes nothing.
use Rattle.std.specs.Prelude.{ℕ, List, Result, Ok, Err}
use Rattle.answers.specs.Answer.{number_of}
use Rattle.motion.specs.Replay.{Replayed, ended, stopped}
use Rattle.answers.specs.declared.Refusal.{Refusal}

abbrev pub end_of : {X : Type 0} → Result X Refusal → List ℕ → Replayed
end_of (Ok _) h = ended h
end_of (Err r) h = stopped (number_of r.0) r.1
