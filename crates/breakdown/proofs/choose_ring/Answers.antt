-- `breakdown::choose_ring` meets its contract. The invariant: the best pair is the choice among the pairs that begin before a.
-- Assumes nothing.
use native.Mathlib.Omega.{arith}
use Rattle.breakdown.proofs.ChoiceLaws.{ring_none, ring_all}
use Rattle.breakdown.proofs.choose_ring.Goals as goal

pub loop-a-init : goal.loop-a-init
loop-a-init c = ring_none c.args.rows.now _ _

pub choose_ring_at-best-requires : goal.choose_ring_at-best-requires
choose_ring_at-best-requires c = record {
  rows = c.requires;
  a_lt_n = c.loop-a-test.true;
  ring_choice = c.loop-a.invariant;
}

pub loop-a-preserved : goal.loop-a-preserved
loop-a-preserved c = c.choose_ring_at-best.ensures

pub returns : goal.returns
returns c =
    ring_all c.args.n c.args.rows.now c.requires c.loop-a.a c.loop-a.best (omega arith) c.loop-a.invariant
