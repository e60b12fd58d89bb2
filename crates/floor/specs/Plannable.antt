-- What demand 3 supposes of an order: "every well-formed order on a bi-connected floor … that is not a single ring and has at least two
-- vacant positions"; and request (d): "A ring with at least one vacant position is planned whenever the racks stand in the same order round
-- it at start and goal". "The never-fails result takes in these rings." Request (j): "The never-fails result covers floors of at most four
-- neighbours to a position." On a ring each position has two (proofs/SidesLaws, `ring_sides`).
--
--     OffRing o                the floor of the order o is no ring, and two positions at least are vacant
--     OnRing o                 it is a ring, one position at least is vacant, and the racks stand in the same order round it
--     Plannable o              the order o is well formed and none of 20, 21, 24 and 26 applies to it
-- Assumes nothing.
use Rattle.std.specs.Prelude.{ℕ, ◌+◌, ◌≤◌, ◌<◌, List, ◌⊎◌, length}
use Rattle.order.specs.Order.{position_count, rack_count, floor_of, starts_of, goals_of, WellFormed}
use Rattle.graph.specs.Connected.{BiConnected, Ring}
use Rattle.floor.specs.FloorAnswer.{Joins, SameRound}
use Rattle.floor.specs.Sides.{neighbours_at}

pub record OffRing (o : List ℕ) : Type 0 where
  pub no_ring : Ring (floor_of o).positions (Joins (floor_of o)) (length (floor_of o).edges) → ⊥
  pub vacancies : rack_count o + 2 ≤ position_count o

pub record OnRing (o : List ℕ) : Type 0 where
  pub ring : Ring (floor_of o).positions (Joins (floor_of o)) (length (floor_of o).edges)
  pub vacancy : rack_count o + 1 ≤ position_count o
  pub order : SameRound (floor_of o) (rack_count o) (starts_of o) (goals_of o)

pub record Plannable (o : List ℕ) : Type 0 where
  pub right : WellFormed o
  pub bi_connected : BiConnected (floor_of o).positions (Joins (floor_of o))
  pub sides : (p : ℕ) → p < (floor_of o).positions → neighbours_at (floor_of o) p ≤ 4
  pub kind : OffRing o ⊎ OnRing o
