-- One pass over a plan's moves with two tables, an entry for each position: the rule's numbers for a move are looked up by one load each.
-- Step and place are one number there, so that behind the eighth place of a step comes the first of the next.
-- Of the moves, those of a window of 4096 steps are entered into a table as Rows has it. A pass may go on behind earlier moves, from the
-- tables that they left: these are kept as one row of 128 numbers, 64 for the arrivals and 64 for the leavings.
--
--     Pass                     what a pass has come to
--     started w                before the first move, with the empty window w
--     turn_number s q           the step s and the place q as one number
--     turn_by x y a b           that of the move from a to b, by the tables x of arrivals and y of leavings
--     noted first w t a b      the window w, of the steps after step `first`, with the move from a to b of step t
--     passed first P m         the pass P with the move m
--     pass first P ms          the pass P with the moves ms
--     pass_in row w g           the pass with the tables of a row, the window w and the greatest step g
--     Early j P                no step is above j: no turn's number above that of its last place
--     Due last d x y ms        no step above step `last` that a pass over ms from the tables x and y gives is before step d
--     PassMade first row w ms g d row' w'    a pass over ms from the row and the window w gives the greatest step g, the row row' and the
--                              window w', and no step behind the window is before step d
--     empty_window              a window without moves
--     window_of ms first        the window of the steps after step `first` that a pass over the moves ms fills
--     latest ms                the greatest step that it finds
-- Assumes nothing.
use Rattle.std.specs.Prelude.{ℕ, ◌+◌, ◌-◌, ◌*◌, ◌/◌, ◌≤◌, ◌<◌, max, ◌≡◌, cond, List, [], ◌∷◌, length, get_or, set}
use Rattle.std.specs.Prelude.{take, drop, replicate, ltb}
use Rattle.motion.specs.LegalStep.{longest_train}

pub record Pass : Type 0 where
  -- the step of the last move of the rack that now stands at a position; 0 where it has none
  pub arrived : List ℕ
  -- the step of the latest move that left a position, and its place in its chain, as one number; 0 where none did
  pub left : List ℕ
  pub window : List ℕ
  pub greatest : ℕ

unfoldable pub started : List ℕ → Pass
started w = record { arrived = replicate 64 0; left = replicate 64 0; window = w; greatest = 0 }

unfoldable pub turn_number : ℕ → ℕ → ℕ
turn_number s q = longest_train * s + (q - 1)

-- it leads in the rack's next step, or goes one place behind the move that left the position now entered, whichever is later
unfoldable pub turn_by : List ℕ → List ℕ → ℕ → ℕ → ℕ
turn_by arrived left a b = max (longest_train * (get_or arrived a 0 + 1)) (get_or left b 0 + 1)

-- the row of step t is row t - 1 - first, if the window has it
unfoldable pub noted : ℕ → List ℕ → ℕ → ℕ → ℕ → List ℕ
noted first w t a b = cond (ltb first t) (cond (ltb (t - 1 - first) 4096) (set w ((t - 1 - first) * 64 + a) (b + 1)) w) w

unfoldable pub passed : ℕ → Pass → ℕ × ℕ → Pass
passed first P m =
    let turn = turn_by P.arrived P.left m.0 m.1 in
    let t = turn / longest_train in
    record {
      arrived = set P.arrived m.1 t;
      left = set P.left m.0 turn;
      window = noted first P.window t m.0 m.1;
      greatest = max P.greatest t;
    }

unfoldable pub pass : ℕ → Pass → List (ℕ × ℕ) → Pass
pass first P [] = P
pass first P (m ∷ ms) = pass first (passed first P m) ms

unfoldable pub pass_in : List ℕ → List ℕ → ℕ → Pass
pass_in row w g = record { arrived = take 64 row; left = drop 64 row; window = w; greatest = g }

pub record Early (j : ℕ) (P : Pass) : Type 0 where
  pub arrivals : (p : ℕ) → get_or P.arrived p 0 ≤ j
  pub leavings : (p : ℕ) → get_or P.left p 0 ≤ turn_number j longest_train
  pub most : P.greatest ≤ j

pub data Due (last d : ℕ) : List ℕ → List ℕ → List (ℕ × ℕ) → Type 0 where
  due_none : {x y : List ℕ} → Due last d x y []
  due_more : {x y : List ℕ} {m : ℕ × ℕ} {ms : List (ℕ × ℕ)} (turn : ℕ) → turn ≡ turn_by x y m.0 m.1
      → (last < turn / longest_train → d ≤ turn / longest_train)
      → Due last d (set x m.1 (turn / longest_train)) (set y m.0 turn) ms → Due last d x y (m ∷ ms)

pub record PassMade (first : ℕ) (row w : List ℕ) (ms : List (ℕ × ℕ)) (g d : ℕ) (row' w' : List ℕ) : Type 0 where
  pub pass_is : pass_in row' w' g ≡ pass first (pass_in row w 0) ms
  pub due_is : Due (first + 4096) d (take 64 row) (drop 64 row) ms
  pub size : length row' ≡ length row

unfoldable pub empty_window : List ℕ
empty_window = replicate 262144 0

unfoldable pub window_of : List (ℕ × ℕ) → ℕ → List ℕ
window_of ms first = (pass first (started empty_window) ms).window

unfoldable pub latest : List (ℕ × ℕ) → ℕ
latest ms = (pass 0 (started empty_window) ms).greatest
