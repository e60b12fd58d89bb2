-- `decoding::join` meets its contract: a bit shifted into a row is a position joined to it. Assumes nothing.
use native.Mathlib.Omega.{arith}
use Rattle.order.proofs.Tables.{shifted_both}
use Rattle.decoding.proofs.join.Goals as goal

pub returns : goal.returns
returns c =
    shifted_both c.args.rows.now c.args.a c.args.b (omega arith) (omega arith)
