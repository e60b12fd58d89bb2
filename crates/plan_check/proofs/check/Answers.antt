-- `plan_check::check` meets its contract: a refusal of the order reader or of the record reader is passed up, and `Layers` has the
-- judgement above their acceptance. Assumes nothing.
use mathlib.Core.Path.{◌∙◌}
use Rattle.answers.specs.Answer.{the_count}
use Rattle.tables.proofs.AcceptedLaws.{order_accepted}
use Rattle.tables.proofs.Layers.{order_refused, record_refused}
use Rattle.plan.specs.Readers.{record_answer}
use Rattle.plan_check.proofs.Layers.{judgement, plan_is, record_gave, plan_room_lem, answer_is}
use Rattle.plan_check.proofs.check.Goals as goal

pub returns-in_err-counts : goal.returns-in_err-counts
returns-in_err-counts c =
    order_refused c.args.order.now (record_answer c.args.plan.now) (judgement c.args.order.now c.args.plan.now)
    (plan_is c.args.order.now c.args.plan.now) the_count c.from_residual.result _ c.from_residual.ensures.1 c.in_err-counts.ensures

pub returns-in_err-k : goal.returns-in_err-k
returns-in_err-k c =
    record_refused c.args.order.now (record_answer c.args.plan.now) (judgement c.args.order.now c.args.plan.now)
    (plan_is c.args.order.now c.args.plan.now) (order_accepted c.in_ok-counts.ensures)
    the_count c.from_residual-in_err-k.result _ c.from_residual-in_err-k.ensures.1 c.in_err-k.ensures

pub names_racks-named-requires : goal.names_racks-named-requires
names_racks-named-requires c = (record_gave c.args.plan.now _ c.in_ok-k.ensures).fit.head_there

pub slice_bounds-judge-count : goal.slice_bounds-judge-count
slice_bounds-judge-count c = (order_accepted c.in_ok-counts.ensures).head_there

pub slice_bounds-judge-start : goal.slice_bounds-judge-start
slice_bounds-judge-start c = (order_accepted c.in_ok-counts.ensures).head_there

pub slice_bounds-judge-count-2 : goal.slice_bounds-judge-count-2
slice_bounds-judge-count-2 c = (record_gave c.args.plan.now _ c.in_ok-k.ensures).fit.head_there

pub slice_bounds-judge-start-2 : goal.slice_bounds-judge-start-2
slice_bounds-judge-start-2 c = (record_gave c.args.plan.now _ c.in_ok-k.ensures).fit.head_there

pub judge-requires : goal.judge-requires
judge-requires c =
    let gave = (order_accepted c.in_ok-counts.ensures) in
    let record_is = (record_gave c.args.plan.now _ c.in_ok-k.ensures) in
    record {
      e_bound = (gave.few_edges, gave.few_racks, gave.room);
      k_bound = (record_is.count_below, plan_room_lem record_is c.names_racks-named.ensures);
    }

pub returns : goal.returns
returns c =
    c.judge.ensures ∙ answer_is (order_accepted c.in_ok-counts.ensures)
    (record_gave c.args.plan.now _ c.in_ok-k.ensures) c.names_racks-named.ensures
