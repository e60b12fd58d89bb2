-- `scheduling::count_steps` meets its contract: a refusal of the plan checker is passed up, and `Making` has the count above its
-- acceptance. Assumes nothing.
use Rattle.plan_check.proofs.Accepted.{count_below, head_there, tail_fits}
use Rattle.scheduling.proofs.Making.{steps_refused, steps_counted}
use Rattle.scheduling.proofs.count_steps.Goals as goal

pub returns-in_err-k : goal.returns-in_err-k
returns-in_err-k c =
    steps_refused c.args.order.now c.args.plan.now c.from_residual.result _ c.from_residual.ensures.1 c.in_err-k.ensures

pub names_racks-requires : goal.names_racks-requires
names_racks-requires c = head_there c.args.order.now c.args.plan.now c.in_ok-k.k c.in_ok-k.ensures

pub slice_bounds-moves-count : goal.slice_bounds-moves-count
slice_bounds-moves-count c = head_there c.args.order.now c.args.plan.now c.in_ok-k.k c.in_ok-k.ensures

pub slice_bounds-moves-start : goal.slice_bounds-moves-start
slice_bounds-moves-start c = head_there c.args.order.now c.args.plan.now c.in_ok-k.k c.in_ok-k.ensures

pub invariant_of-moves : goal.invariant_of-moves
invariant_of-moves c = record {
  few = count_below c.args.order.now c.args.plan.now c.in_ok-k.k c.in_ok-k.ensures;
  fits = tail_fits c.args.order.now c.args.plan.now c.in_ok-k.k c.in_ok-k.ensures c.names_racks.result c.names_racks.ensures;
}

pub returns : goal.returns
returns c =
    steps_counted c.args.order.now c.args.plan.now c.in_ok-k.k c.in_ok-k.ensures c.names_racks.result c.names_racks.ensures
    c.latest_step.result c.latest_step.ensures
