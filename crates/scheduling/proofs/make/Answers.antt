-- `scheduling::make` meets its contract: a refusal of the plan checker is passed up, and `Making` has the answers above its acceptance.
-- Assumes nothing.
use lib.Dec.{lit<}
use native.Mathlib.Omega.{arith}
use Rattle.plan_check.proofs.Accepted.{count_below, head_there, tail_fits}
use Rattle.scheduling.proofs.Making.{maker_refused, maker_short, maker_room, head_room, maker_made}
use Rattle.scheduling.proofs.make.Goals as goal

pub returns-in_err-k : goal.returns-in_err-k
returns-in_err-k c =
    let all = maker_refused c.args.order.now c.args.plan.now c.args.buffer.now c.from_residual.result _ c.from_residual.ensures.1
    c.in_err-k.ensures in
    record {
      result_value = all.0;
      buffer_after = all.1;
    }

pub overflow_mul-k : goal.overflow_mul-k
overflow_mul-k c =
    omega (
      arith,
      count_below c.args.order.now c.args.plan.now c.in_ok-k.k c.in_ok-k.ensures,
    )

pub overflow_add-k : goal.overflow_add-k
overflow_add-k c =
    omega (
      arith,
      count_below c.args.order.now c.args.plan.now c.in_ok-k.k c.in_ok-k.ensures,
    )

pub returns-then-buffer-k : goal.returns-then-buffer-k
returns-then-buffer-k c =
    let all = maker_short c.args.order.now c.args.plan.now c.args.buffer.now c.in_ok-k.k c.in_ok-k.ensures (omega arith) in
    record {
      result_value = all.0;
      buffer_after = all.1;
    }

pub names_racks-requires : goal.names_racks-requires
names_racks-requires c = head_there c.args.order.now c.args.plan.now c.in_ok-k.k c.in_ok-k.ensures

pub slice_bounds-moves-count : goal.slice_bounds-moves-count
slice_bounds-moves-count c = head_there c.args.order.now c.args.plan.now c.in_ok-k.k c.in_ok-k.ensures

pub slice_bounds-moves-start : goal.slice_bounds-moves-start
slice_bounds-moves-start c = head_there c.args.order.now c.args.plan.now c.in_ok-k.k c.in_ok-k.ensures

pub invariant_of-moves : goal.invariant_of-moves
invariant_of-moves c = record {
  few = count_below c.args.order.now c.args.plan.now c.in_ok-k.k c.in_ok-k.ensures;
  fits = tail_fits c.args.order.now c.args.plan.now c.in_ok-k.k c.in_ok-k.ensures c.names_racks.result c.names_racks.ensures;
}

pub make_steps-s-requires : goal.make_steps-s-requires
make_steps-s-requires c =
    maker_room c.args.order.now c.args.plan.now c.args.buffer.now c.in_ok-k.k c.in_ok-k.ensures c.names_racks.result
    c.names_racks.ensures c.if-buffer-k.false

pub put_head-requires : goal.put_head-requires
put_head-requires c =
    let room = head_room c.args.order.now c.args.plan.now c.args.buffer.now c.in_ok-k.k c.in_ok-k.ensures c.names_racks.result
    c.names_racks.ensures c.if-buffer-k.false
    c.make_steps-s.result c.make_steps-s.new.buffer c.make_steps-s.ensures.0 c.make_steps-s.ensures.1 in
    (room.0, room.1, lit< tt)

pub returns : goal.returns
returns c =
    let all = maker_made c.args.order.now c.args.plan.now c.args.buffer.now c.in_ok-k.k c.in_ok-k.ensures c.names_racks.result
    c.names_racks.ensures c.if-buffer-k.false
    c.make_steps-s.result c.make_steps-s.new.buffer c.make_steps-s.ensures.0 c.make_steps-s.ensures.1
    c.put_head.new.s c.put_head.ensures in
    record {
      result_value = all.0;
      buffer_after = all.1;
    }
