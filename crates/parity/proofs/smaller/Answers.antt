-- `parity::smaller` meets its contract.
-- Assumes nothing.
use Prim.Native.Nat.{◌<◌}
use Rattle.parity.proofs.WorkLaws.{smaller-counts, smaller_skips, smaller-all}
use native.Mathlib.Omega.{arith}
use Rattle.parity.proofs.smaller.Goals as goal
use Rattle.parity.proofs.smaller.Goals.{then-list-i, else-list-i}

pub loop-i-preserved : goal.loop-i-preserved
loop-i-preserved c =
    let l : c.loop-i.i < c.args.n = c.loop-i-test.true in
    elim c.if-list-i.branch [
      | then-list-i w ↦
          let e = smaller-counts c.args.list.now c.args.n c.args.x c.loop-i.i l w.if-list-i.true in let q = w.count-is in omega arith
      | else-list-i w ↦
          let e = smaller_skips c.args.list.now c.args.n c.args.x c.loop-i.i l w.if-list-i.false in let q = w.count-is in omega arith
    ]

pub returns : goal.returns
returns c =
    let e = smaller-all c.args.list.now c.args.n c.args.x c.loop-i.i c.loop-i-test.false in
    record {
      value = omega arith;
      upper_bound = omega arith;
    }
