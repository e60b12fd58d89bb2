-- `cancelling::take_in` meets its contract. Assumes nothing.
use native.Mathlib.Omega.{arith}
use Rattle.cancelling.proofs.LookingLaws.{taken_in}
use Rattle.cancelling.proofs.take_in.Goals as goal

pub returns : goal.returns
returns c =
    taken_in c.args.list.now c.args.place c.args.a c.args.b c.with.result c.with-2.result (omega arith)
    c.with.ensures c.with-2.ensures
