-- `window::enter` meets its contract. Assumes nothing.
use Prim.Native.Nat.{◌+◌, ◌<◌}
use native.Mathlib.Omega.{arith}
use Rattle.window.proofs.Passing.{note_outside}
use Rattle.window.proofs.enter.Goals as goal

pub returns-then-first-t : goal.returns-then-first-t
returns-then-first-t c =
    let behind : c.args.first + 4096 < c.args.t = omega arith in
    record {
      window_after = (note_outside _ _ _ _ _ (λ h. behind), omega arith, λ h. omega arith);
      keeps_left = λ left. left;
    }
