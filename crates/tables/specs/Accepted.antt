-- What an order that none of 10 to 14 turns down gives the layers above.
--
--     WellPlaced o          of a well-formed order: few positions, edges and racks of positions below 64, sound starts and goals
--     OrderGave o n e m     what the order reader's acceptance with n, e and m tells
-- Assumes nothing.
use Rattle.std.specs.Prelude.{ℕ, ◌+◌, ◌-◌, ◌*◌, ◌≤◌, ◌<◌, ◌≡◌, false, List, length, take, drop}
use Rattle.field.specs.Bytes.{BelowPairs}
use Rattle.order.specs.Order.{edge_count, rack_count, floor_of, starts_of, goals_of, wrong_edges, WellFormed}
use Rattle.motion.specs.Sound.{Sound}
use Rattle.motion.specs.Problem.{Instance}

pub record WellPlaced (o : List ℕ) : Type 0 where
  pub few_positions : (floor_of o).positions ≤ 64
  pub few_racks : rack_count o ≤ 64
  pub edges_below : BelowPairs 64 (floor_of o).edges
  pub edges_right : wrong_edges (floor_of o) ≡ false
  pub starts_sound : Sound (floor_of o).positions (starts_of o)
  pub goals_sound : Sound (floor_of o).positions (goals_of o)
  pub starts_length : length (starts_of o) ≡ rack_count o
  pub goals_length : length (goals_of o) ≡ rack_count o
  -- of both of Surynek's problems (motion's Problem)
  pub task : Instance (floor_of o) (rack_count o) (starts_of o) (goals_of o)

-- what the order reader's acceptance with n, e and m tells
pub record OrderGave (o : List ℕ) (n e m : ℕ) : Type 0 where
  pub right : WellFormed o
  pub placed_well : WellPlaced o
  pub positions_are : n ≡ (floor_of o).positions
  pub edges_are : e ≡ edge_count o
  pub racks_are : m ≡ rack_count o
  pub few_edges : e < 256
  pub few_racks : m ≤ 64
  pub head_there : 3 ≤ length o
  pub room : 12 * (e + m) ≤ 8 * length (take (length o - 3) (drop 3 o))
