-- The making rule, from document 01, "Making the timetable".
--
--     Timed                  a move of a plan with its rack, the step that the rule gives it, and its place in its chain, 1 for the leader
--     of_rack l r             the step of rack r's latest move among the earlier moves l, latest first; 0 where it has none
--     of_leaving l p          the step of the latest move among l that left p; 0 where none did
--     place_leaving l p       the place of that move in its chain; 0 where none did
--     step_after x y          a move's step by the numbers that the rule asks for, before its place is looked at
--     place_after x y z       its place in its chain there
--     turn_after x y z        its step and its place: one step later where it would be ninth
--     turn_for l r m          those of the move m of rack r after the moves l
--     timed A l ms           the moves ms with their steps, from the arrangement A that the earlier moves l left
--     greatest l             the greatest step of l, 0 where l is empty
--     in_step i l             the moves of step i, as they are found
--     moves_in i l            the moves of step i, ascending by position left
--     steps_from i k l        the k steps from step i on
--     made_steps A ms         the steps that the rule makes of the plan ms from the starts A
-- Assumes nothing.
use Rattle.std.specs.Prelude.{ℕ, zero, suc, ◌+◌, max, cond, List, [], ◌∷◌, eqb, ltb}
use Rattle.motion.specs.LegalStep.{longest_train}
use Rattle.motion.specs.Arrangement.{Arrangement, rack_at}
use Rattle.motion.specs.Move.{after_move}
use Rattle.motion.specs.StepOf.{sort}

pub record Timed : Type 0 where
  pub rack : ℕ
  pub move : ℕ × ℕ
  pub step : ℕ
  pub place : ℕ

unfoldable pub of_rack : List Timed → ℕ → ℕ
of_rack [] r = 0
of_rack (t ∷ l) r = cond (eqb t.rack r) t.step (of_rack l r)

unfoldable pub of_leaving : List Timed → ℕ → ℕ
of_leaving [] p = 0
of_leaving (t ∷ l) p = cond (eqb t.move.0 p) t.step (of_leaving l p)

unfoldable pub place_leaving : List Timed → ℕ → ℕ
place_leaving [] p = 0
place_leaving (t ∷ l) p = cond (eqb t.move.0 p) t.place (place_leaving l p)

-- The rule asks three numbers of a move: x, the step of the same rack's previous move; y and z, the step of the latest earlier move that
-- left the position now entered, and the place of that one in its chain. No step is 0, so 0 stands for a move that there is not.

-- "A move's step is the greater of: one more than the step of the same rack's previous move; the step of the latest earlier move that left
-- the position now entered. With neither, it is 1."
unfoldable pub step_after : ℕ → ℕ → ℕ
step_after x y = max (x + 1) y

-- a move into a position left in the same step follows the move that left it; any other leads
unfoldable pub place_after : ℕ → ℕ → ℕ → ℕ
place_after x y z = cond (eqb y (step_after x y)) (z + 1) 1

-- Request (i): "In the making rule, a move that would be ninth goes one step later." The position that it enters is vacant by then, so that
-- it leads.
unfoldable pub turn_after : ℕ → ℕ → ℕ → ℕ × ℕ
turn_after x y z = cond (ltb longest_train (place_after x y z)) (step_after x y + 1, 1) (step_after x y, place_after x y z)

unfoldable pub turn_for : List Timed → ℕ → ℕ × ℕ → ℕ × ℕ
turn_for l r m = turn_after (of_rack l r) (of_leaving l m.1) (place_leaving l m.1)

-- "Moves are taken in plan order."
unfoldable pub timed : Arrangement → List Timed → List (ℕ × ℕ) → List Timed
timed A l [] = []
timed A l (m ∷ ms) =
    let turn = turn_for l (rack_at A m.0) m in
    let t : Timed = record { rack = rack_at A m.0; move = m; step = turn.0; place = turn.1 } in
    t ∷ timed (after_move A m) (t ∷ l) ms

-- "s, the greatest step so given, or 0 with no moves"
unfoldable pub greatest : List Timed → ℕ
greatest [] = 0
greatest (t ∷ l) = max t.step (greatest l)

unfoldable pub in_step : ℕ → List Timed → List (ℕ × ℕ)
in_step i [] = []
in_step i (t ∷ l) = cond (eqb t.step i) (t.move ∷ in_step i l) (in_step i l)

-- "each step's moves ascending by position left"
unfoldable pub moves_in : ℕ → List Timed → List (ℕ × ℕ)
moves_in i l = sort (in_step i l)

-- steps i to i + k - 1
unfoldable pub steps_from : ℕ → ℕ → List Timed → List (List (ℕ × ℕ))
steps_from i zero l = []
steps_from i (suc k) l = moves_in i l ∷ steps_from (suc i) k l

unfoldable pub made_steps : Arrangement → List (ℕ × ℕ) → List (List (ℕ × ℕ))
made_steps A ms = let l = timed A [] ms in steps_from 1 (greatest l) l
