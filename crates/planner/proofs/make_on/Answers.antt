-- `planner::make_on` meets its contract: a refusal of the floor judge is passed up, and `Making` has the answers above its
-- acceptance. Assumes nothing.
use native.Mathlib.Omega.{arith}
use borrow.Author.Rules.{rules}
use Rattle.planner.proofs.Making.{planner_refused, judged, tables, square, cube, planner_short, room, few_moves, planner_made}
use Rattle.planner.proofs.make_on.Goals as goal

pub returns-in_err-counts : goal.returns-in_err-counts
returns-in_err-counts c =
    planner_refused c.args.order.now c.args.buffer.now _ _ c.from_residual.ensures.1 c.in_err-counts.ensures.result_value

pub overflow_mul-n : goal.overflow_mul-n
overflow_mul-n c =
    let q = square (judged c.in_ok-counts.ensures.result_value c.in_ok-counts.ensures.result_value_2) in
    omega arith

pub overflow_mul-n-2 : goal.overflow_mul-n-2
overflow_mul-n-2 c =
    let q = cube (judged c.in_ok-counts.ensures.result_value c.in_ok-counts.ensures.result_value_2) in
    omega arith

pub overflow_mul-n-3 : goal.overflow_mul-n-3
overflow_mul-n-3 c =
    let q = cube (judged c.in_ok-counts.ensures.result_value c.in_ok-counts.ensures.result_value_2) in
    omega arith

pub overflow_add-n : goal.overflow_add-n
overflow_add-n c =
    let q = cube (judged c.in_ok-counts.ensures.result_value c.in_ok-counts.ensures.result_value_2) in
    omega arith

pub returns-then-buffer-n : goal.returns-then-buffer-n
returns-then-buffer-n c =
    let j = judged c.in_ok-counts.ensures.result_value c.in_ok-counts.ensures.result_value_2 in
    planner_short j c.args.buffer.now (omega (arith, c.if-buffer-n.true))

pub plan_moves-k-requires : goal.plan_moves-k-requires
plan_moves-k-requires c =
    let j = judged c.in_ok-counts.ensures.result_value c.in_ok-counts.ensures.result_value_2 in
    let of = c.judge.ensures in
    record {
      some_tables = record { order = c.args.order.now; tables = tables j _ _ _ of.rows_after of.starts_after of.goals_after };
      n_in_bounds = room j c.args.buffer.now c.if-buffer-n.false;
    }

pub put_head-requires : goal.put_head-requires
put_head-requires c =
    let j = judged c.in_ok-counts.ensures.result_value c.in_ok-counts.ensures.result_value_2 in
    let of = c.judge.ensures in
    let t = tables j _ _ _ of.rows_after of.starts_after of.goals_after in
    let few = few_moves j c.args.buffer.now c.if-buffer-n.false _ _ (c.plan_moves-k.ensures.moves_of c.args.order.now t) in
    (search rules, omega (arith, few), omega arith)

pub returns : goal.returns
returns c =
    let j = judged c.in_ok-counts.ensures.result_value c.in_ok-counts.ensures.result_value_2 in
    let of = c.judge.ensures in
    let t = tables j _ _ _ of.rows_after of.starts_after of.goals_after in
    planner_made j c.args.buffer.now c.if-buffer-n.false _ _ (c.plan_moves-k.ensures.moves_of c.args.order.now t) _ c.put_head.ensures
