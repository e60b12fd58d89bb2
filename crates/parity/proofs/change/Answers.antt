-- `parity::change` meets its contract.
-- Assumes nothing.
use lib.ListN.{length-set}
use Rattle.parity.proofs.WorkLaws.{sent_next}
use native.Mathlib.Omega.{arith}
use Rattle.parity.proofs.change.Goals as goal

pub bounds-at-from : goal.bounds-at-from
bounds-at-from c = omega (arith, c.from.ensures, c.requires.few, c.requires.below c.loop-p.p c.loop-p-test.true)

pub loop-p-preserved : goal.loop-p-preserved
loop-p-preserved c = (
  simp length-set c.loop-p.invariant.0,
  rw c.from.ensures
      (sent_next c.args.starts.now c.args.at.now c.loop-p.sent c.loop-p.p c.loop-p.invariant.0 (omega (arith, c.requires.few))
      c.loop-p.invariant.1),
)

pub returns : goal.returns
returns c = λ p h. c.loop-p.invariant.1 p (omega arith)
