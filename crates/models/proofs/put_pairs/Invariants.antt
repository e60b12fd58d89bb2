-- `models::put_pairs` meets its contract. The loop's invariant: what is left to write decides the bytes at the end. Assumes nothing.
use Prim.Native.Nat.{◌-◌, ◌+◌, ◌*◌}
use Rattle.field.specs.Bits.{pairs}
use Rattle.models.proofs.PutLaws.{Left}
use Rattle.models.proofs.put_pairs.Given as goal

abbrev pub invariant-loop-i : goal.invariant-loop-i
invariant-loop-i l = Left l.initial.tail l.j (pairs l.from 0 l.m) l.tail (l.j + l.i) (pairs l.from (12 * l.i) (l.m - l.i))
