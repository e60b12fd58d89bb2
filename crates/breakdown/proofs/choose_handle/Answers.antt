-- `breakdown::choose_handle` meets its contract. The invariant: the best pair is the choice among the pairs that begin before u.
-- Assumes nothing.
use native.Mathlib.Omega.{arith}
use Rattle.breakdown.proofs.ChoiceLaws.{handle_none, handle_all}
use Rattle.breakdown.proofs.choose_handle.Goals as goal

pub loop-u-init : goal.loop-u-init
loop-u-init c = handle_none c.args.rows.now c.args.settled _ _

pub choose_handle_at-best-requires : goal.choose_handle_at-best-requires
choose_handle_at-best-requires c = record {
  rows = c.requires;
  u_lt_n = c.loop-u-test.true;
  handle_choice = c.loop-u.invariant;
}

pub loop-u-preserved : goal.loop-u-preserved
loop-u-preserved c = c.choose_handle_at-best.ensures

pub returns : goal.returns
returns c =
    handle_all c.args.n c.args.rows.now c.args.settled c.requires c.loop-u.u c.loop-u.best (omega arith) c.loop-u.invariant
