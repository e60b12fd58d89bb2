-- `models::put_tail` meets its contract. Assumes nothing.
use native.Mathlib.Omega.{arith}
use Rattle.field.specs.Bits.{pairs}
use Rattle.models.specs.Grid.{grid_edges}
use Rattle.models.proofs.PutLaws.{room_front, room_next, put_then}
use Rattle.models.proofs.put_tail.Goals as goal

pub put_grid-e-requires : goal.put_grid-e-requires
put_grid-e-requires c = record {
  le_columns = (omega arith, omega arith, omega arith);
  room = room_front (grid_edges c.args.rows c.args.columns) (pairs c.args.racks.now 0 c.args.m) c.requires.room;
}

pub put_pairs-requires : goal.put_pairs-requires
put_pairs-requires c = record {
  m_bound = omega arith;
  room = room_next (grid_edges c.args.rows c.args.columns) (pairs c.args.racks.now 0 c.args.m) c.put_grid-e.ensures c.requires.room;
}

pub returns : goal.returns
returns c = put_then (grid_edges c.args.rows c.args.columns) (pairs c.args.racks.now 0 c.args.m) c.put_grid-e.ensures c.put_pairs.ensures
