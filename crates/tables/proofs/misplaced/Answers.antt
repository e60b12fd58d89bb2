-- `tables::misplaced` meets its contract. The loop's invariant: what is left to look up decides. Assumes nothing.
use native.Mathlib.Omega.{arith}
use Rattle.tables.proofs.Goals.{left-first, rack_found, left-next, left_none}
use Rattle.tables.proofs.misplaced.Goals as goal

pub loop-i-init : goal.loop-i-init
loop-i-init c = left-first _ _ _ _

pub returns-then-from-i : goal.returns-then-from-i
returns-then-from-i c =
    rack_found c.args.tail.now c.args.from c.args.m c.args.racks.now c.loop-i.i
    c.position_at-goal.result c.from.result c.loop-i.invariant (omega arith) c.position_at-goal.ensures.is
    c.from.ensures c.if-from-i.true

pub loop-i-preserved : goal.loop-i-preserved
loop-i-preserved c =
    left-next c.args.tail.now c.args.from c.args.m c.args.racks.now c.loop-i.i
    c.position_at-goal.result c.from.result c.loop-i.invariant (omega arith)
    c.position_at-goal.ensures.is c.from.ensures c.if-from-i.false

pub returns : goal.returns
returns c =
    left_none c.args.tail.now c.args.from c.args.m
    c.args.racks.now c.loop-i.i c.loop-i.invariant (omega arith)
