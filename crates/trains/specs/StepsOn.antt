-- A timetable's steps on tables: judged alike, made alike, and so replayed and judged alike.
--
--     step_fault_on g h ms        the fault of the step ms by the matrix g and the table h: 42, or 0 where it is legal
--     replay_steps_on g h steps   replay of the steps from the table h by the matrix g
-- Assumes nothing.
use Rattle.std.specs.Prelude.{ℕ, cond, List}
use Rattle.motion.specs.Replay.{Replayed, replay_from}
use Rattle.chains.specs.StepOn.{legal_step_on, step_on}

unfoldable pub step_fault_on : List ℕ → List ℕ → List (ℕ × ℕ) → ℕ
step_fault_on g h ms = cond (legal_step_on g h ms) 0 42

unfoldable pub replay_steps_on : List ℕ → List ℕ → List (List (ℕ × ℕ)) → Replayed
replay_steps_on g h steps = replay_from (step_fault_on g) step_on 1 h steps
