-- The moves of a plan for an order, before its head is written: document 01, "Breakdown and planning", and demand 3.
--
--     Solves o n ms         the moves ms, each legal at its turn, take each rack of the order o from its start to its goal; there are at
--                           most 8 × n × n × n, and none where each start is its goal
--     TablesOf o n e m g h k  the order o can be planned, with n positions, e edges and m racks, and is decoded to the rows g and the
--                           tables h and k
--     SomeTables n e m g h k  some order has these tables
--     Differ h k            the tables h and k differ
--     MovesMade n e m g h k t t' w    w such moves of every order with these tables
--     Moves o n t t' k      k such moves are packed at the front of the bytes t', each with the rack that replay has at the position left,
--                           and behind them stands what stood there in t
-- Assumes nothing.
use Rattle.std.specs.Prelude.{ℕ, ◌*◌, ◌≤◌, ◌<◌, ◌≡◌, true, List, [], length}
use Rattle.order.specs.Order.{floor_of, starts_of, goals_of}
use Rattle.order.specs.Tables.{decoded_rows, decoded_starts, decoded_goals}
use Rattle.motion.specs.Replay.{ended, replay_moves, listed}
use Rattle.tables.specs.Accepted.{OrderGave}
use Rattle.floor.specs.Plannable.{Plannable}
use Rattle.graph.specs.Rows.{row}
use Rattle.moving.specs.Journey.{Packed}

-- "If each start is its goal, the plan has no moves." The buffer that 23 asks for, 18 × n × n × n + 3 bytes, holds 8 × n × n × n moves.
pub record Solves (o : List ℕ) (n : ℕ) (ms : List (ℕ × ℕ)) : Type 0 where
  pub few : length ms ≤ 8 * (n * (n * n))
  pub replayed : replay_moves (floor_of o) (starts_of o) ms ≡ ended (goals_of o)
  pub still : starts_of o ≡ goals_of o → ms ≡ []

pub record TablesOf (o : List ℕ) (n e m : ℕ) (g h k : List ℕ) : Type 0 where
  pub gave : OrderGave o n e m
  pub can : Plannable o
  pub rows_are : g ≡ decoded_rows o
  pub starts_are : h ≡ decoded_starts o
  pub goals_are : k ≡ decoded_goals o

pub record SomeTables (n e m : ℕ) (g h k : List ℕ) : Type 0 where
  pub order : List ℕ
  pub tables : TablesOf order n e m g h k

abbrev pub Differ : List ℕ → List ℕ → Type 0
Differ h k = ((p : ℕ) → p < 64 → row h p ≡ row k p) → ⊥

pub record Moves (o : List ℕ) (n : ℕ) (t t' : List ℕ) (k : ℕ) : Type 0 where
  pub moves : List (ℕ × ℕ)
  pub count : k ≡ length moves
  pub solves : Solves o n moves
  pub packed : Packed t (listed true (starts_of o) moves) t'

-- whichever order has the tables
pub record MovesMade (n e m : ℕ) (g h k t t' : List ℕ) (w : ℕ) : Type 0 where
  pub moves_of : (o : List ℕ) → TablesOf o n e m g h k → Moves o n t t' w
