-- `method::broken_down` meets its contract: `MovesLaws` has each part. Assumes nothing.
use native.Mathlib.Omega.{arith}
use Rattle.floor.proofs.FloorRows.{filled_rows, filled_starts, filled_goals}
use Rattle.method.proofs.MovesLaws.{start-placed, goal-placed, room_racks, broken, planned}
use Rattle.method.proofs.broken_down.Goals as goal

pub fill-requires : goal.fill-requires
fill-requires c =
    let o = c.requires.some_tables.order in
    let a = c.args in
    let from = filled_starts c.requires.some_tables.tables.gave c.requires.some_tables.tables.starts_are in
    let w = c.requires.some_tables.tables.gave.placed_well.few_positions in
    let p = c.requires.some_tables.tables.gave.positions_are in
    record {
      n_bound = omega arith;
      m_bound = room_racks c.requires.some_tables.tables.gave c.requires.some_tables.tables.can c.requires.e_nonzero;
      placed = start-placed c.requires.some_tables.tables.gave from;
      racks_len = from.size;
    }

pub fill-requires-2 : goal.fill-requires-2
fill-requires-2 c =
    let o = c.requires.some_tables.order in
    let a = c.args in
    let to = filled_goals c.requires.some_tables.tables.gave c.requires.some_tables.tables.goals_are in
    let w = c.requires.some_tables.tables.gave.placed_well.few_positions in
    let p = c.requires.some_tables.tables.gave.positions_are in
    record {
      n_bound = omega arith;
      m_bound = room_racks c.requires.some_tables.tables.gave c.requires.some_tables.tables.can c.requires.e_nonzero;
      placed = goal-placed c.requires.some_tables.tables.gave to;
      racks_len = to.size;
    }

pub break_down-requires : goal.break_down-requires
break_down-requires c =
    let o = c.requires.some_tables.order in
    let a = c.args in
    filled_rows c.requires.some_tables.tables.gave c.requires.some_tables.tables.rows_are

pub unreachable-requires : goal.unreachable-requires
unreachable-requires c =
    let ring = broken c.requires.some_tables.tables.gave c.requires.some_tables.tables.can c.requires.some_tables.tables.rows_are
    c.requires.e_nonzero c.in_default.ensures in
    omega arith

pub solve-end-requires : goal.solve-end-requires
solve-end-requires c =
    let o = c.requires.some_tables.order in
    let a = c.args in
    let w = c.requires.some_tables.tables.gave.placed_well.few_positions in
    let p = c.requires.some_tables.tables.gave.positions_are in
    let most = room_racks c.requires.some_tables.tables.gave c.requires.some_tables.tables.can c.requires.e_nonzero in
    record {
      rows = filled_rows c.requires.some_tables.tables.gave c.requires.some_tables.tables.rows_are;
      breaks_down = c.in-Some.ensures.1.found c.in-Some.ensures.0;
      table = c.fill.ensures.table;
      table_2 = c.fill-2.ensures.table;
      goal_len = c.fill-2.ensures.racks_len_2;
      space = record { racks = c.fill.ensures.racks_len_2; few_racks = omega arith; room = omega arith };
    }

pub returns : goal.returns
returns c =
    record {
      moves_of = λ o t.
          planned t.gave t.can t.rows_are
          c.fill.new.racks c.fill-2.new.racks c.args.tail.now
          (filled_starts t.gave t.starts_are)
          (filled_goals t.gave t.goals_are)
          c.requires.differ
          c.fill.ensures.filled c.fill-2.ensures.filled c.requires.n_in_bounds (omega arith) c.solve-end.ensures.trip
          c.solve-end.ensures.same;
    }
