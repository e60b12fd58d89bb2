-- `decoding::place_racks` meets its contract. The loop's invariant: what is left to place decides the table at the end. Assumes nothing.
use native.Mathlib.Omega.{arith}
use Rattle.order.proofs.Tables.{place-first, place-next, place_last}
use Rattle.decoding.proofs.place_racks.Goals as goal

pub loop-i-init : goal.loop-i-init
loop-i-init c = place-first c.args.tail.now c.args.from c.args.m c.args.racks.now

pub loop-i-preserved : goal.loop-i-preserved
loop-i-preserved c =
    place-next c.args.tail.now c.args.from c.args.m c.args.racks.now c.loop-i.racks
    c.loop-i.i c.position_at-p.result c.loop-i.invariant (omega arith) c.position_at-p.ensures.is

pub returns : goal.returns
returns c =
    place_last c.args.tail.now c.args.from c.args.m
    c.args.racks.now c.loop-i.racks c.loop-i.i c.loop-i.invariant (omega arith)
