-- `cancelling::clear_mark` meets its contract. Assumes nothing.
use native.Mathlib.Omega.{arith}
use Rattle.cancelling.proofs.LookingLaws.{kept-without}
use Rattle.cancelling.proofs.clear_mark.Goals as goal

pub returns : goal.returns
returns c =
    kept-without c.args.marks.now c.args.i c.without.result (omega arith) c.without.ensures
