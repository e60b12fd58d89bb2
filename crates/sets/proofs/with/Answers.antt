-- `sets::with` meets its contract. Assumes nothing.
use Rattle.sets.proofs.WordLaws.{with_is}
use Rattle.sets.proofs.with.Goals as goal

pub returns : goal.returns
returns c p = with_is c.args.s c.only.result c.args.v p (c.only.ensures p)
