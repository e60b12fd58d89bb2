-- `cancelling::back` meets its contract. Assumes nothing.
use Prim.Native.Nat.{◌*◌, ◌/◌}
use native.Mathlib.Omega.{arith}
use Rattle.cancelling.proofs.LookingLaws.{back_by, back_none}
use Rattle.cancelling.proofs.back.Goals as goal

pub returns-then-disjoint : goal.returns-then-disjoint
returns-then-disjoint c = (
  omega arith,
  λ s looked clear. back_by s c.args.marks.now c.args.ends c.args.groups.now 16384 c.args.at (c.args.at / 16384 * 16384)
      (λ h l u. omega arith) (c.disjoint.ensures c.if-disjoint.true) looked.by_groups clear,
)

pub returns-then-disjoint-2 : goal.returns-then-disjoint-2
returns-then-disjoint-2 c = (
  omega arith,
  λ s looked clear. back_by s c.args.marks.now c.args.ends c.args.blocks.now 256 c.args.at (c.args.at / 256 * 256)
      (λ h l u. omega arith) (c.disjoint-2.ensures c.if-disjoint-2.true) looked.by_blocks clear,
)

pub returns-then-marks-at-eq0 : goal.returns-then-marks-at-eq0
returns-then-marks-at-eq0 c =
    (omega arith, λ s looked clear. back_none s c.args.marks.now c.args.ends c.args.at c.if-marks-at-eq0.true clear)
