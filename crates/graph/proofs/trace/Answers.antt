-- `graph::trace` meets its contract. The invariant is the record `Tracing`.
-- Assumes nothing.
use native.Mathlib.Omega.{arith}
use Rattle.graph.proofs.SearchLaws.{tracing_some, tracing_step}
use Rattle.graph.proofs.trace.Goals as goal

pub lowest-v-requires : goal.lowest-v-requires
lowest-v-requires c =
    tracing_some c.args.rows.now _ _ _ c.requires.down _ _ _ c.loop-k.invariant c.loop-k-test.true

pub loop-k-preserved : goal.loop-k-preserved
loop-k-preserved c =
    tracing_step c.args.rows.now _ _ _ c.requires.down _ _ _ c.loop-k.invariant c.loop-k-test.true _ (omega arith)
    c.lowest-v.ensures.upper_bound c.lowest-v.ensures.has c.lowest-v.ensures.by_index
