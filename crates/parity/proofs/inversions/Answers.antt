-- `parity::inversions` meets its contract.
-- Assumes nothing.
use Prim.Native.Nat.{ℕ, ◌-◌}
use mathlib.Core.Path.{◌≡◌, ap}
use Rattle.parity.specs.Permutation.{inversions}
use Rattle.parity.specs.Work.{entries}
use Rattle.parity.proofs.WorkLaws.{inversions-next, inversions-all}
use native.Mathlib.Omega.{arith}
use Rattle.parity.proofs.inversions.Goals as goal

pub loop-i-init : goal.loop-i-init
loop-i-init c =
    let e : c.args.n - 0 ≡ c.args.n = omega arith in
    let same = ap (λ (k : ℕ). inversions (entries c.args.list.now 0 k)) e in
    omega arith

pub loop-i-preserved : goal.loop-i-preserved
loop-i-preserved c =
    let e = inversions-next c.args.list.now c.args.n c.loop-i.i (omega arith) in
    omega arith

pub returns : goal.returns
returns c =
    let e = inversions-all c.args.list.now c.args.n c.loop-i.i c.loop-i-test.false in
    record {
      value = omega arith;
      upper_bound = omega arith;
    }
