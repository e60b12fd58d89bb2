-- `choosing::kept_length` meets its contract. Assumes nothing.
use Prim.Native.Nat.{◌<◌}
use native.Mathlib.Omega.{arith}
use Rattle.comparing.proofs.Improving.{positions_below, cubes}
use Rattle.choosing.proofs.kept_length.Goals as goal

pub overflow_mul-n : goal.overflow_mul-n
overflow_mul-n c =
    let few : c.counts_of-counts.result.positions < 128 =
    omega (arith, c.counts_of-counts.ensures.positions_are, positions_below c.args.order.now) in
    omega (arith, cubes _ few)

pub overflow_mul-n-2 : goal.overflow_mul-n-2
overflow_mul-n-2 c =
    let few : c.counts_of-counts.result.positions < 128 =
    omega (arith, c.counts_of-counts.ensures.positions_are, positions_below c.args.order.now) in
    omega (arith, cubes _ few)

pub overflow_mul-n-3 : goal.overflow_mul-n-3
overflow_mul-n-3 c =
    let few : c.counts_of-counts.result.positions < 128 =
    omega (arith, c.counts_of-counts.ensures.positions_are, positions_below c.args.order.now) in
    omega (arith, cubes _ few)

pub overflow_add-n : goal.overflow_add-n
overflow_add-n c =
    let few : c.counts_of-counts.result.positions < 128 =
    omega (arith, c.counts_of-counts.ensures.positions_are, positions_below c.args.order.now) in
    omega (arith, cubes _ few)
