-- `stepping::list_origins` meets its contract. The loop's invariant: the moves of the row for the positions passed are listed.
-- Assumes nothing.
use Prim.Native.Nat.{◌-◌}
use mathlib.Core.Path.{refl}
use native.Mathlib.Omega.{arith}
use Rattle.stepping.specs.Judging.{row_moves}
use Rattle.stepping.proofs.Turning.{listing_first, listing_none, listing_more, listing_last}
use Rattle.stepping.proofs.list_origins.Goals as goal
use Rattle.stepping.proofs.list_origins.Goals.{then-origin-ne0, else-origin-ne0}

pub loop-p-init : goal.loop-p-init
loop-p-init c = (omega arith, listing_first c.args.origins.now (row_moves c.args.origins.now 0 64) c.args.buffer.now c.told-buffer refl)

pub loop-p-preserved : goal.loop-p-preserved
loop-p-preserved c =
    let low = c.requires c.loop-p.p in (
      elim c.if-origin-ne0.branch [ then-origin-ne0 t ↦ omega arith | else-origin-ne0 t ↦ omega arith ],
      elim c.if-origin-ne0.branch [
        | then-origin-ne0 t ↦
            rw (t.buffer-is, t.count-is)
            (listing_more c.args.origins.now (row_moves c.args.origins.now 0 64) c.loop-p.buffer c.loop-p.count c.loop-p.p
            c.loop-p.invariant.1 (omega arith) (t.from.result - 1) (omega arith) (omega arith))
        | else-origin-ne0 t ↦
            rw (t.buffer-is, t.count-is)
            (listing_none c.args.origins.now (row_moves c.args.origins.now 0 64) c.loop-p.buffer c.loop-p.count c.loop-p.p
            c.loop-p.invariant.1 (omega arith) (omega arith))
      ],
    )

pub returns : goal.returns
returns c =
    (listing_last c.args.origins.now (row_moves c.args.origins.now 0 64) c.loop-p.buffer c.loop-p.count c.loop-p.p c.loop-p.invariant.1
    (omega arith)).1
