-- `stepping::run_moves` meets its contract: the positions are known, and the tables decide. Assumes nothing.
use mathlib.Core.Path.{sym, ◌∙◌}
use native.Mathlib.Omega.{arith}
use Rattle.order.specs.Order.{floor_of}
use Rattle.chains.specs.StepOn.{moves_of}
use Rattle.stepping.proofs.Lending.{order_head_lem, order_gives, matrix_is, moves_unknown, moves-judged}
use Rattle.stepping.proofs.run_moves.Goals as goal

pub returns-then-not-all_known : goal.returns-then-not-all_known
returns-then-not-all_known c =
    let all = moves_unknown (floor_of c.args.order.now) c.args.n c.args.racks.now (moves_of c.args.step.now)
    (sym c.all_known.ensures ∙ c.if-not-all_known.true) in
    record {
      judged = all.0;
      made = all.1;
    }

pub counts_of-counts-requires : goal.counts_of-counts-requires
counts_of-counts-requires c = order_head_lem c.args.order.now c.requires

pub slice_bounds-mark_edges-count : goal.slice_bounds-mark_edges-count
slice_bounds-mark_edges-count c = order_head_lem c.args.order.now c.requires

pub slice_bounds-mark_edges-start : goal.slice_bounds-mark_edges-start
slice_bounds-mark_edges-start c = order_head_lem c.args.order.now c.requires

pub mark_edges-requires : goal.mark_edges-requires
mark_edges-requires c =
    let gave = order_gives c.args.order.now c.requires _ _ _ c.counts_of-counts.ensures in
    omega (arith, gave.room)

pub returns : goal.returns
returns c =
    let gave = order_gives c.args.order.now c.requires _ _ _ c.counts_of-counts.ensures in
    let all = moves-judged (floor_of c.args.order.now) c.args.n c.args.racks.now (moves_of c.args.step.now)
    (sym c.all_known.ensures ∙ c.if-not-all_known.false) _
    (matrix_is c.args.order.now _ _ _ gave _ c.mark_edges.ensures) _ _ c.run_entries.ensures.judged c.run_entries.ensures.made in
    record {
      judged = all.0;
      made = all.1;
    }
