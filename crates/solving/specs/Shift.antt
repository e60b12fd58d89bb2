-- The shifted goal: document 01, "Where planners went astray": "Goal vacancies outside the base ring need a shifted goal, undone at the
-- end."
--
--     aimed t             the goal t as a state: no rack is real, so that no move is written
--     TwoPositions n x y  x and y are two positions of a floor of n
--     Shift n g x y t s l     moves lead from the goal t to the state s, in which x and y are vacant; the log l has them, so that they can
--                         be taken back
-- Assumes nothing.
use Rattle.std.specs.Prelude.{ℕ, ◌≤◌, ◌<◌, ◌≡◌, List, [], ◌≢◌, length}
use Rattle.graph.specs.Rows.{row, Edge}
use Rattle.moving.specs.Went.{Went}
use Rattle.moving.specs.Journey.{onto, Trail}
use Rattle.moving.specs.Table.{Table}
use Rattle.moving.specs.declared.State.{State}
use Rattle.solving.specs.Moves.{shift_moves}

abbrev pub aimed : List ℕ → State
aimed t = record { racks = t; real = 0; written = 0; logged = 0 }

pub record TwoPositions (n x y : ℕ) : Type 0 where
  pub first : x < n
  pub second : y < n
  pub differ : x ≢ y

pub record Shift (n : ℕ) (g : List ℕ) (x y : ℕ) (t : List ℕ) (s : State) (l : List ℕ) : Type 0 where
  pub moves : List (ℕ × ℕ)
  pub written : List (ℕ × ℕ × ℕ)
  pub went : Went (Edge g) 0 (row t) moves written (row s.racks)
  pub few : s.logged ≤ shift_moves n
  pub trail : Trail l 0 s.logged (onto moves [])
  pub long : length l ≡ 8256
  pub table : Table n (row s.racks)
  pub first : row s.racks x ≡ 0
  pub second : row s.racks y ≡ 0
