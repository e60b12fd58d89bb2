-- `plan_check::replay` meets its contract. The loop's invariant: what is left to replay decides. Assumes nothing.
use native.Mathlib.Omega.{arith}
use Rattle.field.proofs.ListedLaws.{room_at}
use Rattle.plan_check.proofs.Turns.{moves-first, moves-stop, moves_next, moves_none}
use Rattle.plan_check.proofs.replay.Goals as goal

pub loop-j-init : goal.loop-j-init
loop-j-init c = moves-first _ _ _ _ _

pub listed_at-listed-requires : goal.listed_at-listed-requires
listed_at-listed-requires c =
    room_at c.args.named c.loop-j.j c.args.k _ c.loop-j-test.true c.requires.k_bound_2

pub bounds-racks-a : goal.bounds-racks-a
bounds-racks-a c = omega (arith, c.listed_at-listed.ensures.left_below)

pub bounds-matrix-step : goal.bounds-matrix-step
bounds-matrix-step c = omega (arith, c.listed_at-listed.ensures.left_below, c.listed_at-listed.ensures.entered_below)

pub bounds-racks-b : goal.bounds-racks-b
bounds-racks-b c = omega (arith, c.listed_at-listed.ensures.entered_below)

pub returns-in-Err : goal.returns-in-Err
returns-in-Err c =
    moves-stop c.args.tail.now c.args.named c.args.k c.args.matrix.now c.args.racks.now c.loop-j.racks c.loop-j.j
    c.listed_at-listed.result.step c.listed_at-listed.result.rack c.loop-j.invariant (omega arith) c.listed_at-listed.ensures
    c.move_fault.result c.move_fault.ensures
    _ c.in-Err.is

pub loop-j-preserved : goal.loop-j-preserved
loop-j-preserved c =
    let next = moves_next c.args.tail.now c.args.named c.args.k c.args.matrix.now c.args.racks.now c.loop-j.racks
    c.loop-j.j c.listed_at-listed.result.step c.listed_at-listed.result.rack c.loop-j.invariant (omega arith)
    c.listed_at-listed.ensures c.move_fault.result c.move_fault.ensures
    _ c.in_default.is in
    next

pub returns : goal.returns
returns c =
    moves_none c.args.tail.now c.args.named c.args.k c.args.matrix.now c.args.racks.now c.loop-j.racks c.loop-j.j
    c.loop-j.invariant (omega arith)
