-- `sets::has` meets its contract. Assumes nothing.
use Rattle.sets.proofs.WordLaws.{test_is}
use Rattle.sets.proofs.has.Goals as goal

pub returns : goal.returns
returns c = test_is c.args.s c.args.v
