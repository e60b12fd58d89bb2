-- `writers::put_decimal` meets its contract: the last digit is written behind those of the tenth part. Assumes nothing.
use Rattle.writers.proofs.Decimal.{one_fits, one_wrote, more_fits, last_fits, last_wrote}
use native.Mathlib.Omega.{arith}
use Rattle.writers.proofs.+put_decimal.Goals as goal

pub put_byte-requires : goal.put_byte-requires
put_byte-requires t c = one_fits c.args.n c.requires (omega arith)

pub returns-then-n-lt10 : goal.returns-then-n-lt10
returns-then-n-lt10 t c = one_wrote c.args.n c.requires (omega arith) c.put_byte.ensures

pub put_decimal-next-requires : goal.put_decimal-next-requires
put_decimal-next-requires t c = (omega arith, more_fits c.args.n c.requires (omega arith))

pub put_byte-requires-2 : goal.put_byte-requires-2
put_byte-requires-2 t c = last_fits c.args.n c.requires (omega arith) c.put_decimal-next.ensures

pub returns : goal.returns
returns t c = last_wrote c.args.n c.requires (omega arith) c.put_decimal-next.ensures c.put_byte-2.ensures
