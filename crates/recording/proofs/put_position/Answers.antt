-- `recording::put_position` meets its contract: by the tests, each way is one of the four of `put_position`. Assumes nothing.
use Prim.Native.Nat.{◌*◌, ◌/◌}
use native.Mathlib.Omega.{arith}
use mathlib.Core.Path.{refl, sym}
use lib.ListN.{length-set}
use Rattle.field.proofs.PackingLaws.{put_0, put_1, put_2, put_3}
use Rattle.recording.proofs.put_position.Goals as goal

pub returns-then-place-eq0 : goal.returns-then-place-eq0
returns-then-place-eq0 c =
    sym (put_0 c.args.s.now c.args.q (c.args.q / 4 * 3) refl c.args.p c.if-place-eq0.true)

pub bounds-s-at-then-place-eq1-3 : goal.bounds-s-at-then-place-eq1-3
bounds-s-at-then-place-eq1-3 c = simp length-set (omega arith)

pub returns-then-place-eq1 : goal.returns-then-place-eq1
returns-then-place-eq1 c =
    rw c.from-begun.ensures (sym (put_1 c.args.s.now c.args.q (c.args.q / 4 * 3) refl c.args.p c.if-place-eq1.true))

pub bounds-s-at-then-place-eq2-3 : goal.bounds-s-at-then-place-eq2-3
bounds-s-at-then-place-eq2-3 c = simp length-set (omega arith)

pub returns-then-place-eq2 : goal.returns-then-place-eq2
returns-then-place-eq2 c =
    rw c.from-begun-then-place-eq2.ensures (sym (put_2 c.args.s.now c.args.q (c.args.q / 4 * 3) refl c.args.p c.if-place-eq2.true))

pub returns : goal.returns
returns c =
    rw c.from-begun-2.ensures (sym (put_3 c.args.s.now c.args.q (c.args.q / 4 * 3) refl c.args.p (omega arith)))
