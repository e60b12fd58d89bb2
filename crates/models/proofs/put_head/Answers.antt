-- `models::put_head` meets its contract. Assumes nothing.
use Prim.Native.Nat.{◌+◌, ◌*◌, ◌/◌, ◌%◌}
use native.Mathlib.Omega.{arith}
use lib.ListN.{length-set}
use Rattle.recording.proofs.HeadLaws.{written_head}
use Rattle.models.specs.Writing.{order_head}
use Rattle.models.proofs.put_head.Goals as goal

pub bounds-order-1 : goal.bounds-order-1
bounds-order-1 c = rw (length-set c.args.order.now 0 (c.args.n * 2 + c.args.e / 128)) (omega arith)

pub returns : goal.returns
unfolding order_head
returns c = written_head c.args.order.now (c.args.n * 2 + c.args.e / 128) (c.args.e % 128 * 2 + c.args.m / 64)
    (c.args.m % 64 * 4) (omega arith)
