-- `field::count_at_head` meets its contract: the head's first 22 bits are a sum of parts of its three bytes. Assumes nothing.
use native.Mathlib.Omega.{arith}
use Rattle.field.proofs.Sextets.{head_count}
use Rattle.field.proofs.count_at_head.Goals as goal

pub returns : goal.returns
returns c =
    omega (arith, head_count c.args.s.now (omega arith) (omega arith) (omega arith) (omega arith))
