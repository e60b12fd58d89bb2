-- The test whether the moves of a step name positions below n alone, move by move.
--
--     Knowing n d j                   whether the moves from move j on do decides
--     knowing_next, knowing_last      how the test goes on and ends
--     unknown_left, unknown_entered   a position of n or more decides: the answer is no
-- Assumes nothing.
use Prim.Native.Nat.{ℕ, ◌+◌, ◌/◌, ◌%◌, ◌≤◌, ◌<◌}
use mathlib.Core.Path.{◌≡◌, refl, ◌∙◌}
use mathlib.Core.Bool.{true, false}
use mathlib.Core.List.{List}
use borrow.Author.Tests.{lt-ltb, le-ltb}
use lib.ListN.{length, get_or}
use Rattle.motion.specs.Step.{every}
use Rattle.chains.specs.StepOn.{moves_of}
use Rattle.chains.proofs.Moves.{moves_from, moves_at, moves_none}
use Rattle.stepping.specs.Judging.{knows}

module _ (n : ℕ) (d : List ℕ) where
  pub record Knowing (j : ℕ) : Type 0 where
    pub left : every (knows n) (moves_from d j) ≡ every (knows n) (moves_of d)

  module _ (j a b : ℕ) (k : Knowing j) (h : j < length d) (ea : a ≡ get_or d j 0 / 64 % 64) (eb : b ≡ get_or d j 0 % 64) where
    pub unknown_left : n ≤ a → false ≡ every (knows n) (moves_of d)
    unfolding every knows
    unknown_left o = (rw (moves_at d j a b h ea eb, le-ltb a n o) refl) ∙ k.left

    pub unknown_entered : a < n → n ≤ b → false ≡ every (knows n) (moves_of d)
    unfolding every knows
    unknown_entered l o = (rw (moves_at d j a b h ea eb, lt-ltb a n l, le-ltb b n o) refl) ∙ k.left

    pub knowing_next : a < n → b < n → Knowing (j + 1)
    unfolding every knows
    knowing_next l o = record { left = (rw (moves_at d j a b h ea eb, lt-ltb a n l, lt-ltb b n o) refl) ∙ k.left }

  pub knowing_last : (j : ℕ) → Knowing j → length d ≤ j → true ≡ every (knows n) (moves_of d)
  unfolding every
  knowing_last j k h = (rw (moves_none d j h) refl) ∙ k.left
