-- Replay, from document 01, "Legal moves and steps": "Replay first puts each rack at its start. … Each move or step is judged on
-- the arrangement that those before it left. Replay stops at the first that is not legal." Moves and steps count from 1.
--
--     Replayed             how a replay ends: at an arrangement, or stopped by the first that has a fault, with its fault and its place
--     replay_from f a i A   replay of what has the fault f, 0 for none, and makes the arrangement a, its first bearing the number i
--     replay_moves F A      replay of a plan's moves on the floor F from the arrangement A
--     replay_listed F A     the same of the moves as a plan lists them
--     listed named A ms    the moves ms as a plan lists them from the arrangement A: with their racks where it names them, else with 0
--     step_fault legal?     the fault of a step, where legal? decides
--     replay_steps legal? A replay of a timetable's steps from the arrangement A
--     trace a A            the arrangements that a replay passes through, the first and the last included
-- Whether a step is legal has to be decided for a replay to be computed. What is decided stands in the decision's type, `LegalStep`. Any
-- decision gives the same replay; proofs/StepDecision.antt has one.
-- Assumes nothing.
use Rattle.std.specs.Prelude.{ℕ, suc, Bool, cond, List, [], ◌∷◌, eqb}
use Rattle.answers.specs.Answer.{holds}
use Rattle.order.specs.Floor.{Floor}
use Rattle.motion.specs.Arrangement.{Arrangement, rack_at}
use Rattle.motion.specs.Move.{move_fault, listed_fault, after, after_move, after_listed}
use Rattle.motion.specs.LegalStep.{LegalStep}

pub data Replayed : Type 0 where
  ended : Arrangement → Replayed
  stopped : ℕ → ℕ → Replayed

module _ {X : Type 0} (fault : Arrangement → X → ℕ) (next : Arrangement → X → Arrangement) where
  unfoldable pub replay_from : ℕ → Arrangement → List X → Replayed
  replay_from i A [] = ended A
  replay_from i A (x ∷ xs) =
      let rest = replay_from (suc i) (next A x) xs in
      cond (eqb (fault A x) 0) rest (stopped (fault A x) i)

unfoldable pub replay_moves : Floor → Arrangement → List (ℕ × ℕ) → Replayed
replay_moves F A ms = replay_from (move_fault F) after_move 1 A ms

unfoldable pub replay_listed : Floor → Arrangement → List (ℕ × ℕ × ℕ) → Replayed
replay_listed F A l = replay_from (listed_fault F) after_listed 1 A l

-- Request (h): "Drivers' screens work the rack out by replay." Where a plan's moves name their racks, each names the one that stands at the
-- position left at its turn.
unfoldable pub listed : Bool → Arrangement → List (ℕ × ℕ) → List (ℕ × ℕ × ℕ)
listed named A [] = []
listed named A (m ∷ ms) = (m.0, m.1, cond named (rack_at A m.0) 0) ∷ listed named (after_move A m) ms

-- 42: "this step, the first such, is not legal"
module _ {F : Floor} (legal? : (A : Arrangement) (ms : List (ℕ × ℕ)) → Dec (LegalStep F A ms)) where
  unfoldable pub step_fault : Arrangement → List (ℕ × ℕ) → ℕ
  step_fault A ms = cond (holds (legal? A ms)) 0 42

  unfoldable pub replay_steps : Arrangement → List (List (ℕ × ℕ)) → Replayed
  replay_steps A steps = replay_from step_fault after 1 A steps

unfoldable pub trace : {X : Type 0} → (Arrangement → X → Arrangement) → Arrangement → List X → List Arrangement
trace next A [] = A ∷ []
trace next A (x ∷ xs) = A ∷ trace next (next A x) xs
