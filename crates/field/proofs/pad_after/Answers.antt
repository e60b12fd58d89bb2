-- `field::pad_after` meets its contract: a law of `Sextets` for each place of the last position. Assumes nothing.
use Prim.Native.Nat.{◌+◌, ◌*◌, ◌/◌}
use native.Mathlib.Omega.{arith}
use mathlib.Core.Path.{refl}
use Rattle.field.proofs.Sextets.{pad_none, pad_2, pad_4, pad_6}
use Rattle.field.proofs.pad_after.Goals as goal

pub returns-then-place-eq0 : goal.returns-then-place-eq0
returns-then-place-eq0 c =
    omega (arith, pad_none c.args.s.now c.args.q (omega arith))

pub returns-then-place-eq1 : goal.returns-then-place-eq1
returns-then-place-eq1 c =
    omega (arith, pad_2 c.args.s.now c.args.q (c.args.q / 4 * 3) refl (omega arith) (omega arith))

pub returns-then-place-eq2 : goal.returns-then-place-eq2
returns-then-place-eq2 c =
    let at = c.args.q / 4 * 3 in
    omega (arith, pad_4 c.args.s.now c.args.q at refl (at + 1) refl (omega arith) (omega arith))

pub returns : goal.returns
returns c =
    let at = c.args.q / 4 * 3 in
    omega (arith, pad_6 c.args.s.now c.args.q at refl (at + 2) refl (omega arith) (omega arith))
