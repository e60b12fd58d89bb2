-- `sets::lowest` meets its contract. Assumes nothing.
use native.Mathlib.Omega.{arith}
use Rattle.sets.proofs.SetLaws.{trailing_first}
use Rattle.sets.proofs.lowest.Goals as goal

pub returns : goal.returns
returns c = let f = trailing_first 64 c.args.s c.requires c.ranges.s.fits in
    record {
      upper_bound = omega (arith, f.small);
      has = f.has;
      by_index = f.least;
    }
