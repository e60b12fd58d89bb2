-- `shortening::shorten` meets its contract: a refusal of the plan checker is passed up, and `ShortenerLaws` has the answers above its
-- acceptance. Assumes nothing.
use Rattle.plan_check.proofs.Accepted.{count_below, head_there, tail_fits}
use Rattle.shortening.proofs.ShortenerLaws.{shortener_refused, shortener_short}
use Rattle.shortening.proofs.ShortenerLaws.{part_head, part_back, part_room, few_kept, shortener_made}
use Rattle.shortening.proofs.shorten.Goals as goal

pub returns-in_err-k : goal.returns-in_err-k
returns-in_err-k c =
    let all = shortener_refused c.args.order.now c.args.plan.now c.args.buffer.now c.from_residual.result _ c.from_residual.ensures.1
    c.in_err-k.ensures in
    record {
      result_value = all.0;
      buffer_after = all.1;
    }

pub returns-then-buffer-plan : goal.returns-then-buffer-plan
returns-then-buffer-plan c =
    let all = shortener_short c.args.order.now c.args.plan.now c.args.buffer.now c.in_ok-k.k c.in_ok-k.ensures c.if-buffer-plan.true in
    record {
      result_value = all.0;
      buffer_after = all.1;
    }

pub names_racks-named-requires : goal.names_racks-named-requires
names_racks-named-requires c = head_there c.args.order.now c.args.plan.now c.in_ok-k.k c.in_ok-k.ensures

pub slice_bounds-moves-count : goal.slice_bounds-moves-count
slice_bounds-moves-count c = head_there c.args.order.now c.args.plan.now c.in_ok-k.k c.in_ok-k.ensures

pub slice_bounds-moves-start : goal.slice_bounds-moves-start
slice_bounds-moves-start c = head_there c.args.order.now c.args.plan.now c.in_ok-k.k c.in_ok-k.ensures

pub slice_bounds-shorten_moves-count : goal.slice_bounds-shorten_moves-count
slice_bounds-shorten_moves-count c =
    part_head c.args.order.now c.args.plan.now c.args.buffer.now c.in_ok-k.k c.in_ok-k.ensures c.if-buffer-plan.false

pub slice_bounds-shorten_moves-start : goal.slice_bounds-shorten_moves-start
slice_bounds-shorten_moves-start c =
    part_head c.args.order.now c.args.plan.now c.args.buffer.now c.in_ok-k.k c.in_ok-k.ensures c.if-buffer-plan.false

pub invariant_of-moves : goal.invariant_of-moves
invariant_of-moves c = record {
  few = count_below c.args.order.now c.args.plan.now c.in_ok-k.k c.in_ok-k.ensures;
  fits = tail_fits c.args.order.now c.args.plan.now c.in_ok-k.k c.in_ok-k.ensures c.names_racks-named.result c.names_racks-named.ensures;
}

pub shorten_moves-count-requires : goal.shorten_moves-count-requires
shorten_moves-count-requires c = record {
  k_in_bounds = part_room c.args.order.now c.args.plan.now c.args.buffer.now c.in_ok-k.k c.in_ok-k.ensures c.if-buffer-plan.false
      c.names_racks-named.result c.names_racks-named.ensures;
}

pub put_head-requires : goal.put_head-requires
put_head-requires c =
    let few = few_kept c.args.order.now c.args.plan.now c.args.buffer.now c.in_ok-k.k c.in_ok-k.ensures c.if-buffer-plan.false
    c.names_racks-named.result
    c.names_racks-named.ensures c.shorten_moves-count.result c.shorten_moves-count.new.room c.shorten_moves-count.ensures in (
      part_back c.args.order.now c.args.plan.now c.args.buffer.now c.in_ok-k.k c.in_ok-k.ensures c.if-buffer-plan.false _,
      few,
      c.spare_bits.ensures.1,
    )

pub returns : goal.returns
returns c =
    let all = shortener_made c.args.order.now c.args.plan.now c.args.buffer.now c.in_ok-k.k c.in_ok-k.ensures c.if-buffer-plan.false
    c.names_racks-named.result
    c.names_racks-named.ensures c.shorten_moves-count.result c.shorten_moves-count.new.room c.shorten_moves-count.ensures
    c.spare_bits.result c.spare_bits.ensures.0 c.put_head.new.s c.put_head.ensures in
    record {
      result_value = all.0;
      buffer_after = all.1;
    }
