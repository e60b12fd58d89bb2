-- `recording::put_head` meets its contract. Assumes nothing.
use Prim.Native.Nat.{◌/◌, ◌%◌, ◌+◌, ◌*◌}
use native.Mathlib.Omega.{arith}
use lib.ListN.{length-set}
use Rattle.recording.specs.Head.{head_bytes}
use Rattle.recording.proofs.HeadLaws.{written_head}
use Rattle.recording.proofs.put_head.Goals as goal

pub bounds-s-1 : goal.bounds-s-1
bounds-s-1 c = rw (length-set c.args.s.now 0 (c.args.count / 16384)) (omega arith)

pub returns : goal.returns
unfolding head_bytes
returns c =
    written_head c.args.s.now (c.args.count / 16384) (c.args.count / 64 % 256) (c.args.count % 64 * 4 + c.args.spare)
    (omega arith)
