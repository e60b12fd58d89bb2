-- `parity::homes` meets its contract.
-- Assumes nothing.
use mathlib.Core.Path.{refl}
use lib.ListN.{length-set}
use Rattle.parity.proofs.WorkLaws.{homes_none, homes_next}
use native.Mathlib.Omega.{arith}
use Rattle.parity.proofs.homes.Goals as goal

pub loop-p-init : goal.loop-p-init
loop-p-init c = (refl, homes_none _)

pub bounds-at-from : goal.bounds-at-from
bounds-at-from c = omega (arith, c.from.ensures, c.requires.few, c.requires.below c.loop-p.p c.loop-p-test.true)

pub loop-p-preserved : goal.loop-p-preserved
loop-p-preserved c = (
  simp length-set c.loop-p.invariant.0,
  rw c.from.ensures
      (homes_next c.args.n c.args.racks.now c.loop-p.at c.loop-p.p c.requires c.loop-p.invariant.0 c.loop-p-test.true c.loop-p.invariant.1),
)

pub returns : goal.returns
returns c =
    record { back = λ p h. c.loop-p.invariant.1.back p (omega arith); small = c.loop-p.invariant.1.small }
