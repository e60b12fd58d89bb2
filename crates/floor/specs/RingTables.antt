-- What an order on a ring with a vacancy is decoded to.
--
--     RingTables o n m g h k   the order o is accepted with n positions and m racks, fewer than n, on a ring, and is decoded to the rows g
--                              and the tables h and k
--     SomeRing n m g h k       some order is
-- Assumes nothing.
use Rattle.std.specs.Prelude.{ℕ, ◌<◌, ◌≡◌, List}
use Rattle.order.specs.Tables.{decoded_rows, decoded_starts, decoded_goals}
use Rattle.tables.specs.Accepted.{OrderGave}
use Rattle.graph.specs.Connected.{Ring}
use Rattle.graph.specs.EdgeCount.{edge_count}
use Rattle.graph.specs.Rows.{Edge}

pub record RingTables (o : List ℕ) (n m : ℕ) (g h k : List ℕ) : Type 0 where
  pub edges : ℕ
  pub gave : OrderGave o n edges m
  pub rings : Ring n (Edge g) (edge_count g n)
  pub less : m < n
  pub rows_are : g ≡ decoded_rows o
  pub starts_are : h ≡ decoded_starts o
  pub goals_are : k ≡ decoded_goals o

abbrev pub SomeRing : ℕ → ℕ → List ℕ → List ℕ → List ℕ → Type 0
SomeRing n m g h k = (o : List ℕ) × RingTables o n m g h k
