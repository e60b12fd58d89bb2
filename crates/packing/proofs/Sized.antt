-- How large the numbers of an answer may be, so that they fit the fields of the C interface.
--
--     Sized Fits a        the answer a is accepted with counts that fit, or refused with a number from 1 to 255 at a place below 2³²
--     NoCounts, OneCount, WordCount, StepsMoves, OffsetLength, StartGoalMoves    the counts that fit, by function
-- Assumes nothing.
use Prim.Native.Nat.{ℕ, ◌^◌, ◌≤◌, ◌<◌}
use mathlib.Core.List.{List, [], ◌∷◌}
use Rattle.answers.specs.Answer.{Answer, accepted, refused}

pub data Sized (Fits : List ℕ → Type 0) : Answer → Type 0 where
  accepts : {v : List ℕ} → Fits v → Sized Fits (accepted v)
  refuses : {number place : ℕ} → 0 < number → number < 256 → place < 2 ^ 32 → Sized Fits (refused number place)

pub data NoCounts : List ℕ → Type 0 where
  no_counts : NoCounts []

pub data OneCount : List ℕ → Type 0 where
  one_count_lem : {k : ℕ} → k < 2 ^ 22 → OneCount (k ∷ [])

-- the steps on a live floor, whoever wrote it
pub data WordCount : List ℕ → Type 0 where
  word_count : {k : ℕ} → k < 2 ^ 32 → WordCount (k ∷ [])

pub data StepsMoves : List ℕ → Type 0 where
  steps_moves : {steps moves : ℕ} → steps < 2 ^ 22 → moves < 2 ^ 30 → StepsMoves (steps ∷ moves ∷ [])

pub data OffsetLength : List ℕ → Type 0 where
  offset_length : {at n : ℕ} → at < 2 ^ 31 → n ≤ 384 → OffsetLength (at ∷ n ∷ [])

pub data StartGoalMoves : List ℕ → Type 0 where
  start_goal_moves_lem : {s g k : ℕ} → s < 64 → g < 64 → k < 64 → StartGoalMoves (s ∷ g ∷ k ∷ [])
