-- `sets::without` meets its contract. Assumes nothing.
use Rattle.sets.proofs.WordLaws.{without_is}
use Rattle.sets.proofs.without.Goals as goal

pub returns : goal.returns
returns c p =
    without_is c.args.s c.only.result c.args.v c.minus.result p (c.only.ensures p) (c.minus.ensures p)
