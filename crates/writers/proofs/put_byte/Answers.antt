-- `writers::put_byte` meets its contract. Assumes nothing.
use native.Mathlib.Omega.{arith}
use Rattle.field.proofs.WritingLaws.{wrote_byte}
use Rattle.writers.proofs.put_byte.Goals as goal

pub returns : goal.returns
returns c = wrote_byte c.args.out.now c.args.at c.args.byte (omega arith)
