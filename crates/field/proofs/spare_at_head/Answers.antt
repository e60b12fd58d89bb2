-- `field::spare_at_head` meets its contract. Assumes nothing.
use native.Mathlib.Omega.{arith}
use Rattle.field.proofs.Sextets.{head_spare}
use Rattle.field.proofs.spare_at_head.Goals as goal

pub returns : goal.returns
returns c =
    omega (arith, head_spare c.args.s.now (omega arith))
