-- `method::round` meets its contract: `RingLaws` and `MovesLaws` have each part. Assumes nothing.
use mathlib.Core.Path.{refl}
use native.Mathlib.Omega.{arith}
use Rattle.floor.proofs.FloorRows.{filled_starts, filled_goals}
use Rattle.floor.proofs.RoundTables.{rows, starts_on, goals_on, ring-says}
use Rattle.graph.specs.Rows.{row}
use Rattle.method.proofs.MovesLaws.{ring-tables, ring_order_lem, start-placed, goal-placed, planned}
use Rattle.method.proofs.RingLaws.{filled_self, same-round, round_few, round_room}
use Rattle.method.proofs.round.Goals as goal

pub circle-circle-requires : goal.circle-circle-requires
circle-circle-requires c = record {
  rows = rows ((ring-tables c.requires.some_tables.tables.gave c.requires.some_tables.tables.can c.requires.e_value
      c.requires.some_tables.tables.rows_are c.requires.some_tables.tables.starts_are
      c.requires.some_tables.tables.goals_are));
  ring = ((ring-tables c.requires.some_tables.tables.gave c.requires.some_tables.tables.can c.requires.e_value
      c.requires.some_tables.tables.rows_are c.requires.some_tables.tables.starts_are
      c.requires.some_tables.tables.goals_are)).rings;
}

pub solve-end-requires : goal.solve-end-requires
solve-end-requires c =
    let o = c.requires.some_tables.order in
    let three = ((ring-tables c.requires.some_tables.tables.gave c.requires.some_tables.tables.can c.requires.e_value
    c.requires.some_tables.tables.rows_are c.requires.some_tables.tables.starts_are
    c.requires.some_tables.tables.goals_are)).rings.bi_connected.three in
    let less = ((ring-tables c.requires.some_tables.tables.gave c.requires.some_tables.tables.can c.requires.e_value
    c.requires.some_tables.tables.rows_are c.requires.some_tables.tables.starts_are
    c.requires.some_tables.tables.goals_are)).less in
    let small = (rows ((ring-tables c.requires.some_tables.tables.gave c.requires.some_tables.tables.can
    c.requires.e_value c.requires.some_tables.tables.rows_are c.requires.some_tables.tables.starts_are
    c.requires.some_tables.tables.goals_are))).small in
    record {
      le_n = (three, small);
      circled = (
        c.args.rows.now,
        c.circle-circle.ensures.circle,
        rows ((ring-tables c.requires.some_tables.tables.gave
            c.requires.some_tables.tables.can c.requires.e_value c.requires.some_tables.tables.rows_are
            c.requires.some_tables.tables.starts_are c.requires.some_tables.tables.goals_are)),
      );
      real_lt_n = ((ring-tables c.requires.some_tables.tables.gave c.requires.some_tables.tables.can c.requires.e_value
          c.requires.some_tables.tables.rows_are c.requires.some_tables.tables.starts_are
          c.requires.some_tables.tables.goals_are)).less;
      on_circle = starts_on ((ring-tables c.requires.some_tables.tables.gave c.requires.some_tables.tables.can
          c.requires.e_value c.requires.some_tables.tables.rows_are c.requires.some_tables.tables.starts_are
          c.requires.some_tables.tables.goals_are)) c.circle-circle.result c.circle-circle.ensures.circle
          c.circle-circle.ensures.by_index;
      on_circle_2 = goals_on ((ring-tables c.requires.some_tables.tables.gave c.requires.some_tables.tables.can
          c.requires.e_value c.requires.some_tables.tables.rows_are c.requires.some_tables.tables.starts_are
          c.requires.some_tables.tables.goals_are)) c.circle-circle.result c.circle-circle.ensures.circle
          c.circle-circle.ensures.by_index;
      round_alike = (λ p q from to.
          (ring-says ((ring-tables c.requires.some_tables.tables.gave c.requires.some_tables.tables.can
          c.requires.e_value c.requires.some_tables.tables.rows_are c.requires.some_tables.tables.starts_are
          c.requires.some_tables.tables.goals_are)) c.circle-circle.result c.circle-circle.ensures.circle
          c.circle-circle.ensures.by_index p q from to).1
          (ring_order_lem c.requires.some_tables.tables.gave c.requires.some_tables.tables.can c.requires.e_value));
      space = round_room c.args.n three _ c.args.tail.now (filled_starts c.requires.some_tables.tables.gave
          c.requires.some_tables.tables.starts_are).size
          (omega arith) refl c.requires.n_in_bounds;
    }

pub returns : goal.returns
returns c =
    let three = ((ring-tables c.requires.some_tables.tables.gave c.requires.some_tables.tables.can c.requires.e_value
    c.requires.some_tables.tables.rows_are c.requires.some_tables.tables.starts_are
    c.requires.some_tables.tables.goals_are)).rings.bi_connected.three in
    let trip = c.solve-end.ensures.trip_on_ring c.args.rows.now (rows ((ring-tables c.requires.some_tables.tables.gave
    c.requires.some_tables.tables.can c.requires.e_value c.requires.some_tables.tables.rows_are
    c.requires.some_tables.tables.starts_are c.requires.some_tables.tables.goals_are)))
    c.circle-circle.ensures.circle in
    record {
      moves_of = λ o t.
          let from = filled_starts t.gave t.starts_are in
          let to = filled_goals t.gave t.goals_are in
          planned t.gave t.can t.rows_are c.args.starts c.args.goals c.args.tail.now from to c.requires.differ
          (filled_self c.args.m (row c.args.starts)) (filled_self c.args.m (row c.args.goals)) c.requires.n_in_bounds
          (round_few c.args.n three) trip
          (same-round (rows ((ring-tables c.requires.some_tables.tables.gave c.requires.some_tables.tables.can
          c.requires.e_value c.requires.some_tables.tables.rows_are c.requires.some_tables.tables.starts_are
          c.requires.some_tables.tables.goals_are))) three c.circle-circle.ensures.circle (row c.args.goals)
          (start-placed t.gave from)
          (goal-placed t.gave to) trip c.solve-end.ensures.by_index);
    }
