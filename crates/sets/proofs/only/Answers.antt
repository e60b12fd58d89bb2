-- `sets::only` meets its contract. Assumes nothing.
use Rattle.sets.proofs.WordLaws.{only_is}
use Rattle.sets.proofs.only.Goals as goal

pub returns : goal.returns
returns c = only_is c.args.v c.requires
