-- A lent step judged on tables. Crate `live` has that it is document 01's legal step on a picture.
--
--     step_numbered t i    the moves of step i of the timetable t
--     knows n m           both positions of the move m are below n
--     legal_on F n h ms    the step ms is legal by the floor F on the table h, and names no position of n or more
--     ran_here F n h ms    the table after the step ms: as it was, where the step is not legal
--     Lent o t i          the timetable t is accepted for the order o and has a step i
--     Readable t i        the timetable t has a step i of at most 64 moves
--     origins_of w ms      the row w with, for each position that a move of ms enters, one more than the position left
--     OriginsLow w        no position is noted in the row w that is 64 or more
--     row_moves w p k      the moves that the row w has for the k positions from p on, ascending: where it has x + 1 for a position,
--                         one from there to x
-- Assumes nothing.
use Rattle.std.specs.Prelude.{ℕ, zero, suc, ◌+◌, ◌-◌, ◌≤◌, ◌≡◌, Bool, cond, ◌&&◌, List, [], ◌∷◌, ltb, eqb}
use Rattle.std.specs.Prelude.{length, get_or, set, replicate}
use Rattle.answers.specs.Answer.{accepted}
use Rattle.order.specs.Floor.{Floor}
use Rattle.order.specs.Tables.{marked}
use Rattle.motion.specs.Step.{every}
use Rattle.chains.specs.StepOn.{legal_step_on, step_on}
use Rattle.timetable.specs.Timetable.{step_count, step_part, step_moves, timetable_answer}
use Rattle.timetable.specs.Reading.{WellPacked}

-- "Steps go by their number in the lent timetable."
unfoldable pub step_numbered : List ℕ → ℕ → List (ℕ × ℕ)
step_numbered t i = step_moves (step_part t i)

unfoldable pub knows : ℕ → ℕ × ℕ → Bool
knows n m = ltb m.0 n && ltb m.1 n

unfoldable pub legal_on : Floor → ℕ → List ℕ → List (ℕ × ℕ) → Bool
legal_on F n h ms = every (knows n) ms && legal_step_on (marked (replicate 4096 0) F.edges) h ms

unfoldable pub ran_here : Floor → ℕ → List ℕ → List (ℕ × ℕ) → List ℕ
ran_here F n h ms = cond (legal_on F n h ms) (step_on h ms) h

pub record Lent (o t : List ℕ) (i : ℕ) : Type 0 where
  pub counts : List ℕ
  pub is_accepted : timetable_answer o t ≡ accepted counts
  pub low : 1 ≤ i
  pub high : i ≤ step_count t

pub record Readable (t : List ℕ) (i : ℕ) : Type 0 where
  pub packed : WellPacked t
  pub low : 1 ≤ i
  pub high : i ≤ step_count t
  pub few : length (step_moves (step_part t i)) ≤ 64

unfoldable pub origins_of : List ℕ → List (ℕ × ℕ) → List ℕ
origins_of w [] = w
origins_of w (m ∷ ms) = origins_of (set w m.1 (m.0 + 1)) ms

abbrev pub OriginsLow : List ℕ → Type 0
OriginsLow w = (p : ℕ) → get_or w p 0 ≤ 64

unfoldable pub row_moves : List ℕ → ℕ → ℕ → List (ℕ × ℕ)
row_moves w p zero = []
row_moves w p (suc k) = cond (eqb (get_or w p 0) 0) (row_moves w (p + 1) k) ((p, get_or w p 0 - 1) ∷ row_moves w (p + 1) k)
