-- `field::pair_number` meets its contract: two pairs take three bytes, and the four places that a position takes there are the four laws
-- of `Sextets`. Assumes nothing.
use Prim.Native.Nat.{◌+◌, ◌*◌, ◌/◌}
use mathlib.Core.Path.{refl}
use native.Mathlib.Omega.{arith}
use Rattle.field.proofs.Sextets.{sextet_0, sextet_2, sextet_4, sextet_6}
use Rattle.field.proofs.pair_number.Goals as goal

pub returns-then-j-eq0 : goal.returns-then-j-eq0
returns-then-j-eq0 c =
    let at = c.args.j + c.args.j / 2 in
    let first = sextet_0 c.args.s.now (12 * c.args.j) at (omega arith) (omega arith) (omega arith) in
    let second = sextet_6 c.args.s.now (12 * c.args.j + 6) at (at + 1) refl (omega arith) (omega arith) (omega arith) in
    record { first_is = omega arith; second_is = omega arith; first_below = omega arith; second_below = omega arith }

pub returns : goal.returns
returns c =
    let at = c.args.j + c.args.j / 2 in
    let first = sextet_4 c.args.s.now (12 * c.args.j) at (at + 1) refl (omega arith) (omega arith) (omega arith) in
    let second = sextet_2 c.args.s.now (12 * c.args.j + 6) (at + 1) (omega arith) (omega arith) in
    record { first_is = omega arith; second_is = omega arith; first_below = omega arith; second_below = omega arith }
