-- `carry::make` meets its contract: a refusal of the order reader is passed up, and `Making` has the answers above its acceptance.
-- Assumes nothing.
use mathlib.Core.Path.{refl, sym, ◌∙◌}
use mathlib.Core.Bool.{false≢true}
use native.Mathlib.Omega.{arith}
use Rattle.graph.proofs.WalkLaws.{walk_inside}
use Rattle.tables.proofs.AcceptedLaws.{order_accepted}
use Rattle.floor.proofs.FloorRows.{filled_rows}
use Rattle.carry.proofs.Making.{carry_refused, some_position, carry-apart, carry_short}
use Rattle.carry.proofs.Making.{Found, way_nearest, places_below, moves_room, part_back, carry-made}
use Rattle.carry.proofs.make.Goals as goal

pub returns-in_err-counts : goal.returns-in_err-counts
returns-in_err-counts c =
    let all = carry_refused c.args.order.now c.args.buffer.now c.from_residual.result _ c.from_residual.ensures.1
    c.in_err-counts.ensures.result_value in
    record {
      result_value = all.0;
      buffer_after = all.1;
    }

pub is_connected-requires : goal.is_connected-requires
is_connected-requires c = (filled_rows (order_accepted c.in_ok-counts.ensures.result_value)
    c.decode.ensures.rows_after)

pub returns-then-not-is_connected : goal.returns-then-not-is_connected
returns-then-not-is_connected c =
    let all = carry-apart c.args.order.now c.args.buffer.now (order_accepted c.in_ok-counts.ensures.result_value)
    c.decode.ensures.rows_after (λ w. false≢true (sym c.if-not-is_connected.true ∙ c.is_connected.ensures.1 w)) in
    record {
      result_value = all.0;
      buffer_after = all.1;
    }

pub overflow_sub-n : goal.overflow_sub-n
overflow_sub-n c = omega (arith, (some_position (order_accepted c.in_ok-counts.ensures.result_value)))

pub overflow_mul-n : goal.overflow_mul-n
overflow_mul-n c = omega (
  arith,
  (some_position (order_accepted c.in_ok-counts.ensures.result_value)),
  ((filled_rows (order_accepted c.in_ok-counts.ensures.result_value)
      c.decode.ensures.rows_after).small),
)

pub overflow_add-n : goal.overflow_add-n
overflow_add-n c = omega (
  arith,
  (some_position (order_accepted c.in_ok-counts.ensures.result_value)),
  ((filled_rows (order_accepted c.in_ok-counts.ensures.result_value)
      c.decode.ensures.rows_after).small),
)

pub overflow_add-n-2 : goal.overflow_add-n-2
overflow_add-n-2 c = omega (
  arith,
  (some_position (order_accepted c.in_ok-counts.ensures.result_value)),
  ((filled_rows (order_accepted c.in_ok-counts.ensures.result_value)
      c.decode.ensures.rows_after).small),
)

pub returns-then-buffer-n : goal.returns-then-buffer-n
returns-then-buffer-n c =
    let all = carry_short c.args.order.now c.args.buffer.now (order_accepted c.in_ok-counts.ensures.result_value)
    c.decode.ensures.rows_after (c.is_connected.ensures.0 c.if-not-is_connected.false) c.if-buffer-n.true in
    record {
      result_value = all.0;
      buffer_after = all.1;
    }

pub dearest-carry-requires : goal.dearest-carry-requires
dearest-carry-requires c = (
  omega (arith, (some_position (order_accepted c.in_ok-counts.ensures.result_value))),
  (filled_rows (order_accepted c.in_ok-counts.ensures.result_value)
      c.decode.ensures.rows_after),
  (c.is_connected.ensures.0 c.if-not-is_connected.false),
)

pub below-requires : goal.below-requires
below-requires c = ((filled_rows (order_accepted c.in_ok-counts.ensures.result_value)
    c.decode.ensures.rows_after).small)

pub only-requires : goal.only-requires
only-requires c =
    omega (
      arith,
      c.dearest-carry.ensures.goal_below,
      ((filled_rows (order_accepted c.in_ok-counts.ensures.result_value) c.decode.ensures.rows_after).small),
    )

pub search-requires : goal.search-requires
search-requires c = record {
  symmetric = (filled_rows (order_accepted c.in_ok-counts.ensures.result_value)
      c.decode.ensures.rows_after).symmetric;
  from_bound = omega (
    arith,
    c.dearest-carry.ensures.start_below,
    ((filled_rows
        (order_accepted c.in_ok-counts.ensures.result_value) c.decode.ensures.rows_after).small),
  );
}

pub unreachable-requires : goal.unreachable-requires
unreachable-requires c =
    let dear = c.dearest-carry.ensures in
    let way = c.is_connected.ensures.0 c.if-not-is_connected.false c.dearest-carry.result.start c.dearest-carry.result.goal
    dear.start_below dear.goal_below in
    c.in_default.ensures.none refl c.dearest-carry.result.goal way.size
    (walk_inside (λ p. (c.below.ensures p).1) way.walk) ((c.only.ensures c.dearest-carry.result.goal).1 refl)

pub list_way-requires : goal.list_way-requires
list_way-requires c = let f = ((let it : Found c.args.order.now c.args.buffer.now c.in_ok-counts.counts.positions
    c.in_ok-counts.counts.edges c.in_ok-counts.counts.racks c.decode.new.rows c.dearest-carry.result.start
    c.dearest-carry.result.goal c.dearest-carry.result.moves c.in-Some.way.at = record {
      gave = (order_accepted c.in_ok-counts.ensures.result_value);
      filled =
          c.decode.ensures.rows_after;
      whole = (c.is_connected.ensures.0 c.if-not-is_connected.false);
      room =
          c.if-buffer-n.false;
      dear = c.dearest-carry.ensures;
      size = c.in-Some.way.size;
      way = way_nearest
          c.in_ok-counts.counts.positions c.below.result c.only.result _ _ _ c.decode.new.rows c.in-Some.way.at
          c.below.ensures c.only.ensures c.in-Some.ensures.1;
    } in it)) in
    record {
      k_bound = places_below f;
      k_in_bounds = moves_room f;
    }

pub put_head-requires : goal.put_head-requires
put_head-requires c = part_back ((let it : Found c.args.order.now c.args.buffer.now c.in_ok-counts.counts.positions
    c.in_ok-counts.counts.edges c.in_ok-counts.counts.racks c.decode.new.rows c.dearest-carry.result.start
    c.dearest-carry.result.goal c.dearest-carry.result.moves c.in-Some.way.at = record {
      gave = (order_accepted c.in_ok-counts.ensures.result_value);
      filled =
          c.decode.ensures.rows_after;
      whole = (c.is_connected.ensures.0 c.if-not-is_connected.false);
      room =
          c.if-buffer-n.false;
      dear = c.dearest-carry.ensures;
      size = c.in-Some.way.size;
      way = way_nearest
          c.in_ok-counts.counts.positions c.below.result c.only.result _ _ _ c.decode.new.rows c.in-Some.way.at
          c.below.ensures c.only.ensures c.in-Some.ensures.1;
    } in it)) _

pub returns : goal.returns
returns c =
    let all = carry-made ((let it : Found c.args.order.now c.args.buffer.now c.in_ok-counts.counts.positions
    c.in_ok-counts.counts.edges c.in_ok-counts.counts.racks c.decode.new.rows c.dearest-carry.result.start
    c.dearest-carry.result.goal c.dearest-carry.result.moves c.in-Some.way.at = record {
      gave = (order_accepted c.in_ok-counts.ensures.result_value);
      filled =
          c.decode.ensures.rows_after;
      whole = (c.is_connected.ensures.0 c.if-not-is_connected.false);
      room =
          c.if-buffer-n.false;
      dear = c.dearest-carry.ensures;
      size = c.in-Some.way.size;
      way = way_nearest
          c.in_ok-counts.counts.positions c.below.result c.only.result _ _ _ c.decode.new.rows c.in-Some.way.at
          c.below.ensures c.only.ensures c.in-Some.ensures.1;
    } in it)) c.list_way.ensures c.put_head.ensures in
    record {
      result_value = all.0;
      buffer_after = all.1;
    }
