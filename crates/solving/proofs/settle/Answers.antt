-- `solving::settle` meets its contract.
-- Assumes nothing.
use Prim.Native.Nat.{◌-◌, ◌*◌}
use mathlib.Core.Path.{subst}
use native.Mathlib.Omega.{arith}
use Rattle.graph.specs.Rows.{row}
use Rattle.moving.proofs.JourneyLaws.{trip_append, space_less, space_then}
use Rattle.base_ring.specs.declared.Circle.{Circle}
use Rattle.base_ring.specs.Circle.{Open}
use Rattle.lane.specs.Moves.{place_moves}
use Rattle.solving.proofs.SolveLaws.{goal_filled, ring_met, ring_space, ring_trip}
use Rattle.solving.proofs.settle.Goals as goal

pub settle_handles-handled-requires : goal.settle_handles-handled-requires
settle_handles-handled-requires c =
    let goal = subst (λ (x : Circle). Open x (row c.args.goal.now)) c.requires.circle_value c.requires.fact in
    let filled = goal_filled c.args.breakdown c.requires.breaks_down goal in
    let moves = (c.args.n - c.args.breakdown.ring) * place_moves c.args.n in
    record {
      rows = c.requires.rows;
      breaks_down = c.requires.breaks_down;
      table = c.requires.table;
      table_2 = goal.table;
      filled = filled;
      space = space_less moves (omega arith) c.requires.space;
    }

pub settle_ring-requires : goal.settle_ring-requires
settle_ring-requires c =
    let met = ring_met c.args.breakdown c.requires.circle_value c.requires.rows c.requires.breaks_down c.requires.fact
    c.settle_handles-handled.ensures.table_3 c.settle_handles-handled.ensures.agreed in
    record {
      rows = met.rows;
      base_ring = met.ring;
      rest_settled = met.rest;
      space = ring_space c.args.breakdown c.requires.circle_value (space_then c.requires.space c.settle_handles-handled.ensures.trip);
    }

pub returns : goal.returns
returns c = record {
  trip = trip_append c.settle_handles-handled.ensures.trip (ring_trip c.args.breakdown c.requires.circle_value c.settle_ring.ensures.trip);
  same = c.settle_ring.ensures.same;
}
