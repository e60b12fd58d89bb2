-- `converting::convert` meets its contract: a refusal of the plan checker is passed up, and `Converting` has the answers above its
-- acceptance. Assumes nothing.
use Prim.Native.Nat.{◌≤◌}
use native.Mathlib.Omega.{arith}
use lib.ListN.{length}
use Rattle.plan_check.proofs.Accepted.{gave, count_below, head_there, order_there, tail_fits}
use Rattle.converting.proofs.Converting.{converter_refused, converter_short, racks_held, part_back, moves_room}
use Rattle.converting.proofs.Converting.{converter_made}
use Rattle.converting.proofs.convert.Goals as goal

pub returns-in_err-k : goal.returns-in_err-k
returns-in_err-k c =
    let all = converter_refused c.args.order.now c.args.plan.now c.args.buffer.now c.from_residual.result _ c.from_residual.ensures.1
    c.in_err-k.ensures in
    record {
      result_value = all.0;
      buffer_after = all.1;
    }

pub names_racks-named-requires : goal.names_racks-named-requires
names_racks-named-requires c = head_there c.args.order.now c.args.plan.now c.in_ok-k.k
    c.in_ok-k.ensures

pub units-units-requires : goal.units-units-requires
units-units-requires c = count_below c.args.order.now c.args.plan.now c.in_ok-k.k
    c.in_ok-k.ensures

pub returns-then-buffer-units : goal.returns-then-buffer-units
returns-then-buffer-units c =
    let all = converter_short c.args.order.now c.args.plan.now c.args.buffer.now c.in_ok-k.k
    c.in_ok-k.ensures c.names_racks-named.result
    c.names_racks-named.ensures c.units-units.result
    c.units-units.ensures.0 c.if-buffer-units.true in
    record {
      result_value = all.0;
      buffer_after = all.1;
    }

pub counts_of-counts-requires : goal.counts_of-counts-requires
counts_of-counts-requires c = order_there c.args.order.now c.args.plan.now c.in_ok-k.k
    c.in_ok-k.ensures

pub slice_bounds-place_racks-count : goal.slice_bounds-place_racks-count
slice_bounds-place_racks-count c = order_there c.args.order.now c.args.plan.now c.in_ok-k.k
    c.in_ok-k.ensures

pub slice_bounds-place_racks-start : goal.slice_bounds-place_racks-start
slice_bounds-place_racks-start c = order_there c.args.order.now c.args.plan.now c.in_ok-k.k
    c.in_ok-k.ensures

pub place_racks-requires : goal.place_racks-requires
place_racks-requires c =
    let g = (gave c.args.order.now c.args.plan.now c.in_ok-k.k c.in_ok-k.ensures).order_gives in (
      omega (arith, c.counts_of-counts.ensures.racks_are, g.few_racks),
      omega
          (arith, c.counts_of-counts.ensures.edges_are, c.counts_of-counts.ensures.racks_are, g.room),
    )

pub slice_bounds-list_moves-count : goal.slice_bounds-list_moves-count
slice_bounds-list_moves-count c = head_there c.args.order.now c.args.plan.now c.in_ok-k.k
    c.in_ok-k.ensures

pub slice_bounds-list_moves-start : goal.slice_bounds-list_moves-start
slice_bounds-list_moves-start c = head_there c.args.order.now c.args.plan.now c.in_ok-k.k
    c.in_ok-k.ensures

pub slice_bounds-list_moves-count-2 : goal.slice_bounds-list_moves-count-2
slice_bounds-list_moves-count-2 c = ((let it : 3 ≤ length c.args.buffer.now = omega (arith, c.if-buffer-units.false) in it))

pub slice_bounds-list_moves-start-2 : goal.slice_bounds-list_moves-start-2
slice_bounds-list_moves-start-2 c = ((let it : 3 ≤ length c.args.buffer.now = omega (arith, c.if-buffer-units.false) in it))

pub list_moves-requires : goal.list_moves-requires
list_moves-requires c = record {
  k_bound = (
    count_below c.args.order.now c.args.plan.now c.in_ok-k.k
        c.in_ok-k.ensures,
    tail_fits c.args.order.now c.args.plan.now
        c.in_ok-k.k c.in_ok-k.ensures c.names_racks-named.result
        c.names_racks-named.ensures,
  );
  k_in_bounds = moves_room c.args.order.now c.args.plan.now c.args.buffer.now c.in_ok-k.k
      c.in_ok-k.ensures c.names_racks-named.result
      c.names_racks-named.ensures _ _ c.counts_of-counts.ensures.edges_are
      c.counts_of-counts.ensures.racks_are _ c.place_racks.ensures c.units-units.result c.units-units.ensures.0
      c.if-buffer-units.false;
  held = racks_held c.args.order.now c.args.plan.now c.args.buffer.now c.in_ok-k.k
      c.in_ok-k.ensures c.names_racks-named.result
      c.names_racks-named.ensures _ _ c.counts_of-counts.ensures.edges_are
      c.counts_of-counts.ensures.racks_are _ c.place_racks.ensures;
}

pub put_head-requires : goal.put_head-requires
put_head-requires c = (
  part_back c.args.order.now c.args.plan.now c.args.buffer.now c.in_ok-k.k
      c.in_ok-k.ensures c.names_racks-named.result
      c.names_racks-named.ensures _ _ c.counts_of-counts.ensures.edges_are
      c.counts_of-counts.ensures.racks_are _ c.place_racks.ensures c.units-units.result c.units-units.ensures.0
      c.if-buffer-units.false _,
  count_below c.args.order.now c.args.plan.now c.in_ok-k.k c.in_ok-k.ensures,
  c.spare_bits.ensures.1,
)

pub returns : goal.returns
returns c =
    let all = converter_made c.args.order.now c.args.plan.now c.args.buffer.now c.in_ok-k.k
    c.in_ok-k.ensures c.names_racks-named.result
    c.names_racks-named.ensures _ _ c.counts_of-counts.ensures.edges_are
    c.counts_of-counts.ensures.racks_are _ c.place_racks.ensures c.units-units.result c.units-units.ensures.0
    c.if-buffer-units.false _ c.list_moves.ensures c.spare_bits.result c.spare_bits.ensures.0 _
    c.put_head.ensures in
    record {
      result_value = all.0;
      buffer_after = all.1;
    }
