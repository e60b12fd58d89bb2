-- `sets::minus` meets its contract. Assumes nothing.
use Rattle.sets.proofs.WordLaws.{minus_is}
use Rattle.sets.proofs.minus.Goals as goal

pub returns : goal.returns
returns c = minus_is c.args.s c.args.t c.ranges.s.fits c.ranges.t.fits
