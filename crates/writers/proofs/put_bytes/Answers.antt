-- `writers::put_bytes` meets its contract. The loop's invariant: the bytes from byte j on are left to write. Assumes nothing.
use Rattle.writers.proofs.Parts.{next_fits, next-left, all_wrote, bytes_next, bytes_none}
use Prim.Native.Nat.{◌+◌}
use mathlib.Core.List.{[], ◌∷◌}
use native.Mathlib.Omega.{arith}
use lib.ListN.{get_or, drop}
use Rattle.field.proofs.WritingLaws.{left-first}
use Rattle.writers.proofs.put_bytes.Goals as goal

pub loop-byte-init : goal.loop-byte-init
loop-byte-init c = left-first

pub put_byte-next-requires : goal.put_byte-next-requires
put_byte-next-requires c =
    next_fits (get_or c.args.bytes.now c.loop-byte.byte-index 0 ∷ []) (drop (c.loop-byte.byte-index + 1) c.args.bytes.now)
    (bytes_next c.args.bytes.now c.loop-byte.byte-index (omega arith)) c.requires c.loop-byte.invariant

pub loop-byte-preserved : goal.loop-byte-preserved
loop-byte-preserved c =
    next-left (get_or c.args.bytes.now c.loop-byte.byte-index 0 ∷ []) (drop (c.loop-byte.byte-index + 1) c.args.bytes.now)
    (bytes_next c.args.bytes.now c.loop-byte.byte-index (omega arith)) c.requires c.loop-byte.invariant
    c.put_byte-next.ensures

pub shape_of-out : goal.shape_of-out
shape_of-out c = c.loop-byte.invariant.length_same

pub returns : goal.returns
returns c =
    all_wrote (bytes_none c.args.bytes.now c.loop-byte.byte-index (omega arith)) c.loop-byte.invariant
