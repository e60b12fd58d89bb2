-- `cancelling::set_mark` meets its contract. Assumes nothing.
use native.Mathlib.Omega.{arith}
use Rattle.cancelling.proofs.LookingLaws.{kept_with}
use Rattle.cancelling.proofs.set_mark.Goals as goal

pub returns : goal.returns
returns c =
    kept_with c.args.marks.now c.args.i c.with.result (omega arith) c.with.ensures
