-- `circling::reach` meets its contract: no rack is a lap away from rack 1. Assumes nothing.
use native.Mathlib.Omega.{arith}
use Rattle.circling.proofs.NeedsLaws.{distance_below}
use Rattle.circling.proofs.reach.Goals as goal

pub overflow_add-result : goal.overflow_add-result
overflow_add-result c =
    let far = distance_below c.requires.places c.args.r c.requires.rack in
    omega (arith, c.requires.n_bound, c.requires.base_bound, c.distance.ensures)

pub returns : goal.returns
returns c =
    let far = distance_below c.requires.places c.args.r c.requires.rack in
    record { is = omega arith; lap = omega arith }
