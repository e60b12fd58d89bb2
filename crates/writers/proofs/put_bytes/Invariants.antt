-- `writers::put_bytes` meets its contract. The loop's invariant: the bytes from byte j on are left to write. Assumes nothing.
use lib.ListN.{drop}
use Rattle.field.proofs.WritingLaws.{Left}
use Rattle.writers.proofs.put_bytes.Given as goal

abbrev pub invariant-loop-byte : goal.invariant-loop-byte
invariant-loop-byte l = Left l.initial.out l.at l.bytes l.out l.next (drop l.byte-index l.bytes)
